-- The maximal cones of fans of polynomials are given by differences of exponents.
use Rattle.std.proofs.Common.{◌≡◌, ◌<◌, ◌≤◌, ℕ, List, [], ◌∷◌, ◌++◌, map, length, take, remove, ℤ, Contains, arith, refl, sym, ap, subst, inl, inr}
use Rattle.std.proofs.lemmas.List.{take_all}
use Rattle.std.proofs.lemmas.List.Edits.{length-remove}
use Rattle.std.proofs.lemmas.List.Elements.{Contains-append_left, Contains-append_right, Contains-append_cases, Contains-get_or}
use Rattle.gf_int_theory.proofs.ListLaws.{Contains-here}
use Rattle.gf_duality_theory.specs.Faces.{Rows}
use Rattle.gf_duality_theory.proofs.ListLaws.{none_in, in_cons, of_rest}
use Rattle.gf_fans_theory.specs.Fans.{meet}
use Rattle.gf_fans_theory.specs.FaceLists.{numbered}
use Rattle.gf_fans_theory.proofs.PartNumbers.{in_map, of_map}
use Rattle.gf_rays.specs.Cones.{RowsAndRays, rows_of}
use Rattle.gf_fan.specs.declared.cones.FanCone.{FanCone}
use Rattle.gf_fan.specs.FanLists.{FanLists}
use Rattle.gf_fan.specs.FansOfCones.{IsFanOf, vanishing_rows}
use Rattle.gf_fan.proofs.ZeroRowLaws.{are_zero_rows}
use Rattle.gf_fan.proofs.UnderMaximal.{maximal_some}
use Rattle.gf_poly.specs.Polynomial.{Terms}
use Rattle.gf_patterns_theory.specs.Patterns.{points}
use Rattle.gf_patterns_theory.specs.PatternFans.{whole_space}
use Rattle.gf_patterns_theory.specs.PatternRows.{vector_difference, point_at, pair_rows, single_rows}
use Rattle.gf_levels_theory.specs.VertexPoints.{AreVertexPoints}
use Rattle.gf_cuts.specs.Drawn.{IsDifferenceOf, HasRow, AreDrawnFrom}
use Rattle.gf_tropical.specs.declared.kind.Kind.{Kind}
use Rattle.gf_tropical.specs.declared.kind.Kind.TheVariants.{Prevariety, Minkowski}
use Rattle.gf_tropical.specs.Kinds.{IsAdmittedBy, IsConeBy}
use Rattle.gf_tropical.specs.Systems.{IsFanSystem, none, one, more}
use Rattle.gf_tropical.specs.Making.{IsFanOfRows, AreOfSystems}
use Rattle.gf_tropical.specs.DifferenceRows.{IsDifferenceIn, HasDifferenceRows, HaveDifferenceRows, IsByDifferences}

-- ---- rows

-- the rows of no cone
pub no_rows : (As : List (List (List ℤ))) (c : Rows) → c ≡ whole_space → HasDifferenceRows As c
no_rows As c e h (inl k) = absurd (none_in h (subst (λ (z : Rows). Contains z.inequalities h) e k))
no_rows As c e h (inr k) = absurd (none_in h (subst (λ (z : Rows). Contains z.equations h) e k))

pub whole_by_differences : (As : List (List (List ℤ))) (cs : List Rows) → cs ≡ whole_space ∷ [] → HaveDifferenceRows As cs
whole_by_differences As cs e = record {
  each = λ c k. elim (in_cons whole_space [] c (subst (λ (z : List Rows). Contains z c) e k)) [ inl q ↦ no_rows As c q | inr o ↦ absurd (none_in c o) ];
}

-- of more polynomials
more_points : (As all : List (List (List ℤ))) (c : Rows) → ((A : List (List ℤ)) → Contains As A → Contains all A) → HasDifferenceRows As c →
    HasDifferenceRows all c
more_points As all c to d h k = let x = d h k in record { of = x.of; listed = to x.of x.listed; difference = x.difference }

-- rows of two cones
of_both : (As : List (List (List ℤ))) (c d f : Rows) → f.inequalities ≡ c.inequalities ++ d.inequalities → f.equations ≡ c.equations ++ d.equations →
    HasDifferenceRows As c → HasDifferenceRows As d → HasDifferenceRows As f
of_both As c d f e g x y h (inl k) = elim (Contains-append_cases c.inequalities d.inequalities h (subst (λ (z : List (List ℤ)). Contains z h) e k)) [
  | inl i ↦ x h (inl i)
  | inr j ↦ y h (inl j)
]
of_both As c d f e g x y h (inr k) = elim (Contains-append_cases c.equations d.equations h (subst (λ (z : List (List ℤ)). Contains z h) g k)) [
  | inl i ↦ x h (inr i)
  | inr j ↦ y h (inr j)
]

-- the rows of a cone, and some of its inequalities once more as equations
of_face : (As : List (List (List ℤ))) (c f : Rows) (vectors : List (List ℤ)) → f.inequalities ≡ c.inequalities →
    f.equations ≡ c.equations ++ vanishing_rows c.inequalities vectors → HasDifferenceRows As c → HasDifferenceRows As f
of_face As c f vectors e g x h (inl k) = x h (inl (subst (λ (z : List (List ℤ)). Contains z h) e k))
of_face As c f vectors e g x h (inr k) =
    elim (Contains-append_cases c.equations (vanishing_rows c.inequalities vectors) h (subst (λ (z : List (List ℤ)). Contains z h) g k)) [
      | inl i ↦ x h (inr i)
      | inr j ↦ x h (inl ((are_zero_rows c.inequalities vectors).each h j).0)
    ]

-- ---- the cones of one polynomial

difference_of : (A : List (List ℤ)) (i : ℕ) (x h : List ℤ) → i < length A → Contains A x → h ≡ vector_difference (point_at A i) x → IsDifferenceOf A h
difference_of A i x h l k e = record { high = point_at A i; low = x; of_high = Contains-get_or A i [] l; of_low = k; is = e }

-- the points but some
differences : (A others : List (List ℤ)) (i : ℕ) (h : List ℤ) → i < length A → ((x : List ℤ) → Contains others x → Contains A x) →
    Contains (map (vector_difference (point_at A i)) others) h → IsDifferenceOf A h
differences A others i h l to k = let x = of_map (vector_difference (point_at A i)) others h k in difference_of A i x.0 h l (to x.0 x.1.0) (sym x.1.1)

pair_differences : (A : List (List ℤ)) (i j : ℕ) (h : List ℤ) → i < j → j < length A → HasRow (pair_rows A i j) h → IsDifferenceOf A h
pair_differences A i j h l m (inl k) =
    let e = length-remove A j m in
    differences A (remove (remove A j) i) i h (omega (arith, l, m)) (λ x c. of_rest A j x m (of_rest (remove A j) i x (omega (arith, e, l, m)) c)) k
pair_differences A i j h l m (inr k) = elim (in_cons (vector_difference (point_at A i) (point_at A j)) [] h k) [
  | inl q ↦ difference_of A i (point_at A j) h (omega (arith, l, m)) (Contains-get_or A j [] m) q
  | inr o ↦ absurd (none_in h o)
]

single_differences : (A : List (List ℤ)) (i : ℕ) (h : List ℤ) → i < length A → HasRow (single_rows A i) h → IsDifferenceOf A h
single_differences A i h l (inl k) = differences A (remove A i) i h l (λ x c. of_rest A i x l c) k
single_differences A i h l (inr k) = absurd (none_in h k)

of_cone : (kind : Kind) (As : List (List (List ℤ))) (c : Rows) → IsConeBy kind As c → HasDifferenceRows As c
of_cone Prevariety As c p h k = record {
  of = p.of;
  listed = p.listed;
  difference = pair_differences p.of p.i p.j h p.ordered p.inside (subst (λ (z : Rows). HasRow z h) p.rows k);
}
of_cone Minkowski As c p h k = record {
  of = p.of;
  listed = p.listed;
  difference = single_differences p.of p.i h p.inside (subst (λ (z : Rows). HasRow z h) p.rows k);
}

-- ---- systems

pub of_system : (kind : Kind) (n : ℕ) (As : List (List (List ℤ))) (f : Rows) → IsFanSystem (IsConeBy kind) (IsAdmittedBy kind) n As f → HasDifferenceRows As f
of_system kind n As f (none g e) = no_rows As f e
of_system kind n As f (one A Bs c g e p w m) =
    of_face As c f w.face.rays (ap (λ (z : Rows). z.inequalities) w.face.rows) (ap (λ (z : Rows). z.equations) w.face.rows)
    (subst (λ (z : List (List (List ℤ))). HasDifferenceRows z c) (sym e) (of_cone kind (A ∷ []) c p))
of_system kind n As f (more Bs all A c d g e nz p q w m) =
    of_face As (meet c d) f w.face.rays (ap (λ (z : Rows). z.inequalities) w.face.rows) (ap (λ (z : Rows). z.equations) w.face.rows)
    (of_both As c d (meet c d) refl refl (more_points Bs As c (λ B k. subst (λ (z : List (List (List ℤ))). Contains z B) (sym e)
    (Contains-append_left Bs (A ∷ []) B k)) (of_system kind n Bs c p)) (more_points (A ∷ []) As d (λ B k. subst (λ (z : List (List (List ℤ))). Contains z B)
    (sym e) (Contains-append_right Bs (A ∷ []) B k)) (of_system kind n (A ∷ []) d q)))

pub of_systems : (kind : Kind) (n : ℕ) (set : List Terms) (i : ℕ) (h : FanLists) → length set ≤ i → AreOfSystems kind n (map points (take i set)) h →
    IsByDifferences (map points set) h
of_systems kind n set i h l s = record {
  each = λ k c. of_system kind n (map points set) (rows_of k.cone)
      (subst (λ (z : List Terms). IsFanSystem (IsConeBy kind) (IsAdmittedBy kind) n (map points z) (rows_of k.cone)) (take_all i set l) (s k c));
}

-- ---- levels

-- the points of vertices are points
vertex_in : (n : ℕ) (A B : List (List ℤ)) (x : List ℤ) → AreVertexPoints n A B → Contains B x → Contains A x
vertex_in n A B x v k =
    let y = of_map (point_at A) v.indices x (subst (λ (z : List (List ℤ)). Contains z x) v.are k) in
    subst (Contains A) y.1.1 (Contains-get_or A y.0 [] (v.inside y.0 y.1.0))

-- cones that are cut by the points of vertices of one of the polynomials
pub of_cut : (n : ℕ) (As : List (List (List ℤ))) (A B : List (List ℤ)) (cs ps : List Rows) → Contains As A → AreVertexPoints n A B → AreDrawnFrom B cs ps →
    HaveDifferenceRows As cs → HaveDifferenceRows As ps
of_cut n As A B cs ps l v d old = record {
  each = λ p k h r.
      let x = d.each p k in
      elim (x.1.1 h r) [
        | inl i ↦ old.each x.0 x.1.0 h i
        | inr y ↦ record {
          of = A;
          listed = l;
          difference = record {
            high = y.high;
            low = y.low;
            of_high = vertex_in n A B y.high v y.of_high;
            of_low = vertex_in n A B y.low v y.of_low;
            is = y.is;
          };
        }
      ];
}

-- ---- the maximal cones of the fan of such cones

pub by_differences : (n : ℕ) (As : List (List (List ℤ))) (given : List RowsAndRays) (h : FanLists) → HaveDifferenceRows As (map rows_of given) →
    IsFanOf n given h → IsByDifferences As h
by_differences n As given h d s = record {
  each = λ k c.
      let a = s.cones.each k (maximal_some n given h s k c) in
      let o : RowsAndRays = a.origin in
      of_face As (rows_of o) (rows_of k.cone) (numbered h.rays k.numbers) a.inequalities a.equations (d.each (rows_of o) (in_map rows_of given o a.listed));
}

pub rows_by_differences : (n : ℕ) (As : List (List (List ℤ))) (cones : List Rows) (h : FanLists) → HaveDifferenceRows As cones → IsFanOfRows n cones h →
    IsByDifferences As h
rows_by_differences n As cones h d s = by_differences n As s.given h (subst (HaveDifferenceRows As) (sym s.rows) d) s.fan
