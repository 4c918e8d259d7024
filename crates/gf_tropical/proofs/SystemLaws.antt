-- The systems of rows that fans come of.
use Rattle.std.proofs.Common.{◌≡◌, ℕ, List, [], ◌∷◌, ◌++◌, map, length, length-append, ℤ, ◌≢◌, Any, Contains, arith, refl, sym, ap, ap₂, ◌∙◌, subst, inl, inr}
use Rattle.gf_int_theory.proofs.ListLaws.{Contains-here}
use Rattle.gf_gordan.specs.declared.error.ConeOverflow.{ConeOverflow}
use Rattle.gf_gordan.specs.declared.error.GordanError.{GordanError}
use Rattle.gf_gordan.specs.declared.error.GordanError.TheVariants as gordan
use Rattle.gf_gordan.specs.Steps.{Failed}
use Rattle.gf_duality_theory.specs.Faces.{Rows, SameCone, part}
use Rattle.gf_rays.specs.Reached.{IsRaysStep}
use Rattle.gf_duality_theory.proofs.ListLaws.{none_in, in_cons}
use Rattle.gf_fans_theory.specs.Fans.{meet}
use Rattle.gf_fans_theory.specs.FaceLists.{numbered}
use Rattle.gf_fans_theory.proofs.FanLaws.{same_turned}
use Rattle.gf_fans_theory.proofs.PartNumbers.{in_map}
use Rattle.gf_rays.specs.Cones.{RowsAndRays, rows_of}
use Rattle.gf_fan.specs.declared.cones.FanCone.{FanCone}
use Rattle.gf_fan.specs.FanLists.{FanLists}
use Rattle.gf_fan.specs.FansOfCones.{IsFan, IsFanOf, vanishing_rows}
use Rattle.gf_fan.proofs.UnderMaximal.{maximal_some}
use Rattle.gf_fan.specs.FaceSystems.{IsFaceSystem}
use Rattle.gf_fan.specs.Refusals.{IsFacesStep}
use Rattle.gf_refine.specs.FansRefined.{IsMeetOfCones, IsRefinementOf, IsPartOfMeet}
use Rattle.gf_refine.specs.Refusals.{IsRefineStep}
use Rattle.gf_poly.specs.Polynomial.{Terms}
use Rattle.gf_patterns_theory.specs.Vertices.{AreVertexCones, AreVertexPairCones}
use Rattle.gf_patterns_theory.specs.PatternFans.{whole_space}
use Rattle.gf_tropical.specs.declared.error.TropicalError.{TropicalError}
use Rattle.gf_tropical.specs.declared.error.TropicalError.TheVariants.{Cone, ZeroPolynomial, Memory}
use Rattle.gf_tropical.specs.declared.kind.Kind.{Kind}
use Rattle.gf_tropical.specs.declared.kind.Kind.TheVariants.{Prevariety, Minkowski}
use Rattle.gf_tropical.specs.Kinds.{IsAdmittedBy, IsConeBy}
use Rattle.gf_tropical.specs.Systems.{IsSystemOf, whole, own, both, one, more}
use Rattle.gf_tropical.specs.Refusals.{tropical_of_gordan, IsTropicalRefusal, IsTropicalWithinLimits}
use Rattle.gf_tropical.specs.Making.{IsFanOfRows, AreOfSystems, IsStepOf, IsOfCones, of_one, space, IsStepOfCones, IsWidthRefusal}
use Rattle.gf_tropical.specs.TropicalFans.{IsPatternFan}
use Rattle.gf_tropical.proofs.MaximalLaws.{whole_of, whole_of_given, maximal_in}

-- ---- systems

pub IsWidthRefusal-weaker : (P Q : ConeOverflow → Type 0) (e : TropicalError) → ((s : ConeOverflow) → P s → Q s) → IsWidthRefusal P e → IsWidthRefusal Q e
IsWidthRefusal-weaker P Q (Cone s) to x = to s x
IsWidthRefusal-weaker P Q (ZeroPolynomial number index) to x = x
IsWidthRefusal-weaker P Q Memory to x = x

pub failed_width : (P : ConeOverflow → Type 0) (g : GordanError) (e : TropicalError) → e ≡ tropical_of_gordan g → Failed P g → IsWidthRefusal P e
failed_width P (gordan.Cone s) e q x = subst (IsWidthRefusal P) (sym q) x
failed_width P gordan.Memory e q x = subst (IsWidthRefusal P) (sym q) tt

-- ---- the cones of one polynomial

pub pair_cones_by : (A : List (List ℤ)) (cones : List Rows) (n : ℕ) → AreVertexPairCones n A cones → (c : Rows) → Contains cones c →
    IsConeBy Prevariety (A ∷ []) c
pair_cones_by A cones n s c k = let p = s.each c k in record {
  of = A;
  listed = Contains-here A [];
  i = p.0;
  j = p.1;
  ordered = p.2.0;
  inside = p.2.1;
  rows = p.2.2;
}

pub single_cones_by : (A : List (List ℤ)) (cones : List Rows) (n : ℕ) → AreVertexCones n A cones → (c : Rows) → Contains cones c → IsConeBy Minkowski (A ∷ []) c
single_cones_by A cones n s c k = let p = s.each c k in record { of = A; listed = Contains-here A []; i = p.0; inside = p.1.0; rows = p.1.1 }

-- ---- the fan of cones by rows

given_listed : (given : List RowsAndRays) (cones : List Rows) (c : RowsAndRays) → map rows_of given ≡ cones → Contains given c → Contains cones (rows_of c)
given_listed given cones c e k = subst (λ z. Contains z (rows_of c)) e (in_map rows_of given c k)

-- a cone of the fan is a face of one of the cones
fan_systems : (n : ℕ) (cones : List Rows) (h : FanLists) → (s : IsFanOfRows n cones h) → (k : FanCone) → Contains h.cones k →
    (o : RowsAndRays) × (Contains s.given o × IsFaceSystem n (rows_of o) (rows_of k.cone))
fan_systems n cones h s k c =
    let a = s.fan.cones.each k c in
    let o : RowsAndRays = a.origin in (
      o,
      (
        a.listed,
        record {
          lineality = h.lineality;
          rays = numbered h.rays k.numbers;
          are_rays = a.face.are_rays;
          rows = ap₂ (λ (i j : List (List ℤ)). record { inequalities = i; equations = j }) a.inequalities a.equations;
        },
      ),
    )

-- an operation of finding the rays of one of the cones
pub step_of_cone : (n : ℕ) (cones : List Rows) (s : ConeOverflow) → Any (λ (c : Rows). IsRaysStep n c.inequalities c.equations s) cones →
    IsStepOfCones n cones s
step_of_cone n cones s a = record { system = a.1; is_system = of_one a.1 a.1 (a.0, a.2, a.3) (inl refl); step = a.4 }

-- an operation of listing the faces
pub step_of_faces : (n : ℕ) (rays : List RowsAndRays) (cones : List Rows) (s : ConeOverflow) → map rows_of rays ≡ cones → IsFacesStep n rays s →
    IsStepOfCones n cones s
step_of_faces n rays cones s e (inl x) = record {
  system = x.face;
  is_system = of_one (rows_of x.origin) x.face (given_listed rays cones x.origin e x.listed) (inr x.is_face);
  step = x.step;
}
step_of_faces n rays cones s e (inr x) = record { system = whole_space; is_system = space whole_space refl; step = x.1 }

-- the faces of the whole space are the whole space
whole_face : (n : ℕ) (c f : Rows) → c ≡ whole_space → IsFaceSystem n c f → f ≡ whole_space
whole_face n c f e x = x.rows ∙ ap (λ (r : Rows). part r (vanishing_rows r.inequalities x.rays)) e

-- of the cones of no polynomial
pub step_of_none : (kind : Kind) (n : ℕ) (cones : List Rows) (s : ConeOverflow) → cones ≡ whole_space ∷ [] → IsStepOfCones n cones s → IsStepOf kind n [] s
step_of_none kind n cones s e x = record { system = x.system; is_system = whole x.system (is x.system x.is_system); step = x.step }
  where
    cone : (c : Rows) → Contains cones c → c ≡ whole_space
    cone c k = elim (in_cons whole_space [] c (subst (λ z. Contains z c) e k)) [ inl q ↦ q | inr i ↦ absurd (none_in c i) ]

    is : (f : Rows) → IsOfCones n cones f → f ≡ whole_space
    is f (of_one c g k (inl q)) = q ∙ cone c k
    is f (of_one c g k (inr y)) = whole_face n c f (cone c k) y
    is f (space g q) = q

-- of those of one polynomial
pub step_of_one : (kind : Kind) (n : ℕ) (As : List (List (List ℤ))) (A : List (List ℤ)) (cones : List Rows) (s : ConeOverflow) → Contains As A →
    ((c : Rows) → Contains cones c → IsConeBy kind (A ∷ []) c) → IsStepOfCones n cones s → IsStepOf kind n As s
step_of_one kind n As A cones s l by x = record { system = x.system; is_system = is x.system x.is_system; step = x.step }
  where
    is : (f : Rows) → IsOfCones n cones f → IsSystemOf (IsConeBy kind) (IsAdmittedBy kind) n As f
    is f (of_one c g k y) = own A c f l (by c k) y
    is f (space g q) = whole f q

-- an operation that the set has too
pub step_listed : (kind : Kind) (n : ℕ) (As : List (List (List ℤ))) (A : List (List ℤ)) (s : ConeOverflow) → Contains As A → IsStepOf kind n (A ∷ []) s →
    IsStepOf kind n As s
step_listed kind n As A s l x = record { system = x.system; is_system = is x.system x.is_system; step = x.step }
  where
    is : (f : Rows) → IsSystemOf (IsConeBy kind) (IsAdmittedBy kind) n (A ∷ []) f → IsSystemOf (IsConeBy kind) (IsAdmittedBy kind) n As f
    is f (whole g q) = whole f q
    is f (own B c g k y z) = own A c f l (subst (λ D. IsConeBy kind (D ∷ []) c) (elim (in_cons A [] B k) [ inl e ↦ e | inr i ↦ absurd (none_in B i) ]) y) z
    is f (both [] after B c d g e nz p q y) = absurd (nz refl)
    is f (both (C ∷ before) after B c d g e nz p q y) = absurd (let z = ap length e in let w = length-append before (B ∷ after) in omega (arith, z, w))

-- an operation of finding a common refinement
pub step_of_refining : (kind : Kind) (n : ℕ) (As before after : List (List (List ℤ))) (A : List (List ℤ)) (f g : FanLists) (s : ConeOverflow) →
    As ≡ before ++ A ∷ after → before ≢ [] → f.ambient ≡ n → AreOfSystems kind n before f → AreOfSystems kind n (A ∷ []) g → IsRefineStep f g s →
    IsStepOf kind n As s
step_of_refining kind n As before after A f g s is nz e p q (inl x) =
    let c : Rows = rows_of x.c.cone in let d : Rows = rows_of x.d.cone in let m : Rows = meet c d in
    elim x.step [
      | inl y ↦ record {
        system = m;
        is_system = both before after A c d m is nz (p x.c x.first) (q x.d x.second) (inl refl);
        step = subst (λ k. IsRaysStep k m.inequalities m.equations s) e y;
      }
      | inr y ↦ record {
        system = y.face;
        is_system = both before after A c d y.face is nz (p x.c x.first) (q x.d x.second) (inr (subst (λ k. IsFaceSystem k m y.face) e y.is_face));
        step = subst (λ k. IsRaysStep k y.face.inequalities y.face.equations s) e y.step;
      }
    ]
step_of_refining kind n As before after A f g s is nz e p q (inr x) = record {
  system = whole_space;
  is_system = whole whole_space refl;
  step = subst (λ k. IsRaysStep k [] [] s) e x.1;
}

-- the maximal cones of a common refinement
pub refined_systems : (kind : Kind) (n : ℕ) (As all : List (List (List ℤ))) (A : List (List ℤ)) (f g h : FanLists) → all ≡ As ++ A ∷ [] → As ≢ [] →
    f.ambient ≡ n → IsFan f → IsFan g → IsPatternFan (IsAdmittedBy kind) n all h → IsRefinementOf f g h → AreOfSystems kind n As f →
    AreOfSystems kind n (A ∷ []) g → ((k : FanCone) → Contains h.cones k → IsPartOfMeet f g k) → AreOfSystems kind n all h
refined_systems kind n As all A f g h is nz e sf sg ph r p q parts k c =
    let s : IsFanOf n ph.fan.0 h = subst (λ z. IsFanOf z ph.fan.0 h) ph.ambient ph.fan.1 in
    let x = parts k (maximal_some n ph.fan.0 h s k c) in
    let m : Rows = meet (rows_of x.c.cone) (rows_of x.d.cone) in
    let l = r.every x.c x.d (maximal_some f.ambient sf.0 f sf.1 x.c x.first) (maximal_some g.ambient sg.0 g sg.1 x.d x.second) in
    let same : SameCone n m (rows_of l.1.cone) = same_turned n (rows_of l.1.cone) m (subst (λ i. IsMeetOfCones i x.c x.d l.1) e l.4) in
    let face : IsFaceSystem n m (rows_of k.cone) = subst (λ i. IsFaceSystem i m (rows_of k.cone)) e x.face in
    more As all A (rows_of x.c.cone) (rows_of x.d.cone) (rows_of k.cone) is nz (p x.c x.first) (q x.d x.second)
    (whole_of n ph.fan.0 h k l.1 m s c (l.0, l.2, l.3) same face) (maximal_in (IsAdmittedBy kind) n all h k ph c)

-- the maximal cones of the fan of one polynomial
pub one_systems : (kind : Kind) (n : ℕ) (A : List (List ℤ)) (cones : List Rows) (h : FanLists) → ((c : Rows) → Contains cones c → IsConeBy kind (A ∷ []) c) →
    IsFanOfRows n cones h → IsPatternFan (IsAdmittedBy kind) n (A ∷ []) h → AreOfSystems kind n (A ∷ []) h
one_systems kind n A cones h by s ph k c =
    let x = fan_systems n cones h s k (maximal_some n s.given h s.fan k c) in let o : RowsAndRays = x.0 in
    one A (A ∷ []) (rows_of o) (rows_of k.cone) refl (by (rows_of o) (given_listed s.given cones o s.rows x.1.0))
    (whole_of_given n s.given h k o s.fan c x.1.0 x.1.1) (maximal_in (IsAdmittedBy kind) n (A ∷ []) h k ph c)

-- ---- what a refusal says

pub only_memory : (IsSystem : ℕ → List (List (List ℤ)) → Rows → Type 0) (n : ℕ) (set : List Terms) (e : TropicalError) → IsTropicalWithinLimits IsSystem n set →
    IsTropicalRefusal IsSystem n set e → e ≡ Memory
only_memory IsSystem n set (Cone s) w x = absurd (w.within s x.1)
only_memory IsSystem n set (ZeroPolynomial number index) w x = absurd (w.not_zero index [] x.1.inside x.1.zero)
only_memory IsSystem n set Memory w x = refl
