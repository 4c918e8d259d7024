-- The cones of a fan as cones of their own, and what is read of the maximal ones.
use Rattle.std.proofs.Common.{◌≡◌, ◌↔◌, ℕ, ◌<◌, List, [], ◌∷◌, ◌++◌, length, get_or, ℤ, All, Contains, arith, refl, sym, ap, ap₂, ◌∙◌, subst, append-nil, inl}
use Rattle.std.proofs.Common.{inr}
use Rattle.std.proofs.lemmas.List.{get_or_default, get_or-map, length-map}
use Rattle.std.proofs.lemmas.List.Elements.{All-contains, Contains-get_or}
use Rattle.gf_int_theory.proofs.ListLaws.{all_by}
use Rattle.gf_vec.specs.declared.error.WideVector.{WideVector}
use Rattle.gf_gordan.specs.declared.error.ConeOverflow.{ConeOverflow}
use Rattle.gf_duality_theory.specs.Faces.{Rows, IsInCone, part}
use Rattle.gf_duality_theory.specs.Rays.{IsRays}
use Rattle.gf_duality_theory.proofs.Determined.{rays_determined}
use Rattle.gf_fans_theory.specs.FaceLists.{numbered}
use Rattle.gf_rays.specs.Cones.{RowsAndRays, rows_of}
use Rattle.gf_rays.specs.Reached.{IsRaysStep}
use Rattle.gf_fan.specs.declared.cones.FanCone.{FanCone}
use Rattle.gf_fan.specs.declared.faces.Found.{Found}
use Rattle.gf_fan.specs.ConeParts.{part_by, ArePartNumbers, HasRowsAndRaysOf}
use Rattle.gf_fan.specs.FanLists.{FanLists, numbers_of}
use Rattle.gf_fan.specs.FansOfCones.{IsCommonLineality, AreCommonRays, IsFanCone, AreAllFaces, AreMaximal, IsFan, vanishing_rows}
use Rattle.gf_fan.specs.Found.{IsFound, AreFoundBefore}
use Rattle.gf_fan.specs.Holding.{IsInSome, IsHoldingStep}
use Rattle.gf_fan.specs.MaximalCones.{no_cone, maximal_of}
use Rattle.gf_fan.specs.Pairs.{AreOfAmbient}
use Rattle.gf_fan.specs.Parts.{IsPartOfCone, HasItsRays}
use Rattle.gf_fan.specs.Refusals.{IsFaceStep}
use Rattle.gf_fan.specs.WholeCones.{AreWholeCones, IsInOne, IsRowStep}
use Rattle.gf_fan.proofs.FanConeLaws.{inside_of}
use Rattle.gf_fan.proofs.ListingLaws.{found_cone, part_of_found, cone_of_found, part_own}
use Rattle.gf_fan.proofs.MaximalLaws.{numbers_long}
use Rattle.gf_fan.proofs.NumberLaws.{listed_at}
use Rattle.gf_fan.proofs.UnderMaximal.{maximal_some, under_maximal}

-- ---- a face by the numbers of its rays

pub part_numbers : (cones : List RowsAndRays) (rays : List (List ℤ)) (f : Found) (c : RowsAndRays) (numbers : List ℕ) → c ≡ get_or cones f.origin c →
    IsFound cones rays f → numbers ≡ f.own → ArePartNumbers c numbers
part_numbers cones rays f c numbers e k q =
    let r = found_cone cones rays f c e k in
    subst (ArePartNumbers c) (sym q) (record { inside = r.1.1.face.listed.inside; part = part_of_found cones rays r.0 c f r.1.0 r.1.1 })

pub cone_of_part : (n : ℕ) (cones : List RowsAndRays) (lin rays : List (List ℤ)) (f : Found) (c d : RowsAndRays) (numbers own : List ℕ) →
    AreOfAmbient n cones → IsCommonLineality cones lin → AreCommonRays cones rays → c ≡ get_or cones f.origin c → IsFound cones rays f → own ≡ f.own →
    numbers ≡ f.numbers → HasItsRays c → d ≡ part_by c own → IsFanCone n cones lin rays (record { dim = f.dim; numbers = numbers; cone = d })
cone_of_part n cones lin rays f c d numbers own ambient lines up e g q en has ed =
    let b = found_cone cones rays f c e g in
    let k : Contains cones c = listed_at cones f.origin c b.1.1.at in
    cone_of_found n cones lin rays f c d numbers own ambient lines up e g q en has (
      ap (λ (z : RowsAndRays). z.ambient) ed ∙ All-contains (λ (c : RowsAndRays). c.ambient ≡ n) cones c ambient k,
      ap (λ (z : RowsAndRays). z.inequalities) ed,
      ap (λ (z : RowsAndRays). z.equations) ed,
    )
    (λ p. (ap (λ (z : RowsAndRays). z.lineality) ed, ap (λ (z : RowsAndRays). z.rays) ed))

-- the rows that are zero on the face, as they are read
pub zero_as : (c : RowsAndRays) (zero read : List (List ℤ)) (xs ys numbers : List ℕ) → zero ≡ vanishing_rows c.inequalities (numbered c.rays xs) →
    read ≡ zero → xs ≡ numbers → ys ≡ numbers → read ≡ vanishing_rows c.inequalities (numbered c.rays ys)
zero_as c zero read xs ys numbers e er ex ey = er ∙ e ∙ ap (λ l. vanishing_rows c.inequalities (numbered c.rays l)) (ex ∙ sym ey)

-- the rows of the face, where these are zero on it
pub rays_of_part : (c d : RowsAndRays) (numbers own : List ℕ) (zero : List (List ℤ)) → HasItsRays c → ArePartNumbers d own → c ≡ d → numbers ≡ own →
    zero ≡ vanishing_rows c.inequalities (numbered c.rays numbers) → IsRays c.ambient c.inequalities (c.equations ++ zero) c.lineality (numbered c.rays numbers)
rays_of_part c d numbers own zero has a ed en e = part_own c.ambient c numbers zero has.are_rays
    (subst (IsPartOfCone c) (sym en) (subst (λ (z : RowsAndRays). IsPartOfCone z own) (sym ed) a.part)) e

none_of : (xs : List (List ℤ)) → length xs ≡ 0 → xs ≡ []
none_of [] e = refl
none_of (x ∷ xs) e = absurd (omega (arith, e))

-- where none is, the face is the cone
pub whole_part : (c d w p : RowsAndRays) (numbers own : List ℕ) (zero : List (List ℤ)) → HasItsRays c → ArePartNumbers d own → c ≡ d → numbers ≡ own →
    zero ≡ vanishing_rows c.inequalities (numbered c.rays numbers) → length zero ≡ 0 → w ≡ d → part_by d own ≡ p → HasRowsAndRaysOf w p
whole_part c d w p numbers own zero has a ed en e none ew ep =
    let some : List (List ℤ) = numbered c.rays numbers in
    let rows : c.equations ++ zero ≡ c.equations = ap (λ (z : List (List ℤ)). c.equations ++ z) (none_of zero none) ∙ append-nil c.equations in
    let s : IsRays c.ambient c.inequalities c.equations c.lineality some =
    subst (λ z. IsRays c.ambient c.inequalities z c.lineality some) rows (rays_of_part c d numbers own zero has a ed en e) in
    let own_part : HasRowsAndRaysOf c (part_by c numbers) = record {
      ambient = refl;
      inequalities = refl;
      equations = sym rows ∙ ap (λ (z : List (List ℤ)). c.equations ++ z) e;
      lineality = refl;
      rays = (rays_determined c.ambient (rows_of c) (rows_of c) c.lineality c.rays c.lineality some (λ v lv. (λ i. i, λ i. i)) has.are_rays s).1;
    } in
    subst (λ (z : RowsAndRays). HasRowsAndRaysOf z p) (ed ∙ sym ew) (subst (HasRowsAndRaysOf c) (ap₂ part_by ed en ∙ ep) own_part)

pub part_as : (c d q w p : RowsAndRays) (numbers own : List ℕ) (zero : List (List ℤ)) → c ≡ d → numbers ≡ own →
    zero ≡ vanishing_rows c.inequalities (numbered c.rays numbers) →
    (q.ambient ≡ c.ambient) × (q.inequalities ≡ c.inequalities) × (q.equations ≡ c.equations ++ zero) → (q.lineality ≡ c.lineality) ×
    (q.rays ≡ numbered c.rays numbers) → w ≡ q → part_by d own ≡ p → HasRowsAndRaysOf w p
part_as c d q w p numbers own zero ed en e rows there ew ep =
    let own_part : HasRowsAndRaysOf q (part_by c numbers) = record {
      ambient = rows.0;
      inequalities = rows.1;
      equations = rows.2 ∙ ap (λ (z : List (List ℤ)). c.equations ++ z) e;
      lineality = there.0;
      rays = there.1;
    } in
    subst (λ (z : RowsAndRays). HasRowsAndRaysOf z p) (sym ew) (subst (HasRowsAndRaysOf q) (ap₂ part_by ed en ∙ ep) own_part)

-- an operation of its system
pub step_as : (c d p : RowsAndRays) (numbers own : List ℕ) (zero : List (List ℤ)) (s : ConeOverflow) → c ≡ d → numbers ≡ own →
    zero ≡ vanishing_rows c.inequalities (numbered c.rays numbers) → part_by d own ≡ p → IsRaysStep c.ambient c.inequalities (c.equations ++ zero) s →
    IsRaysStep p.ambient p.inequalities p.equations s
step_as c d p numbers own zero s ed en e ep step = subst (λ (z : RowsAndRays). IsRaysStep z.ambient z.inequalities z.equations s) (ap₂ part_by ed en ∙ ep)
    (subst (λ z. IsRaysStep c.ambient c.inequalities (c.equations ++ z) s) e step)

pub step_of_cone : (n : ℕ) (given : List RowsAndRays) (lin rays : List (List ℤ)) (k : FanCone) (s : ConeOverflow) → IsFanCone n given lin rays k →
    IsRaysStep k.cone.ambient k.cone.inequalities k.cone.equations s → IsFaceStep n given s
step_of_cone n given lin rays k s a step =
    let hs : List (List ℤ) = a.origin.inequalities in
    let es : List (List ℤ) = a.origin.equations ++ vanishing_rows hs (numbered rays k.numbers) in
    record {
      origin = a.origin;
      listed = a.listed;
      face = part (rows_of a.origin) (vanishing_rows hs (numbered rays k.numbers));
      is_face = record { lineality = lin; rays = numbered rays k.numbers; are_rays = a.face.are_rays; rows = refl };
      step = subst (λ m. IsRaysStep m hs es s) a.ambient (subst (λ z. IsRaysStep k.cone.ambient z es s) a.inequalities
          (subst (λ z. IsRaysStep k.cone.ambient k.cone.inequalities z s) a.equations step));
    }

-- all faces of cones that were lent out
pub members_listed : (n : ℕ) (cones given : List RowsAndRays) (lin rays : List (List ℤ)) (found read : List Found) (members : List FanCone) →
    AreOfAmbient n cones → given ≡ cones → IsCommonLineality cones lin → AreCommonRays cones rays → AreFoundBefore given rays (length given) found →
    read ≡ found → ((m : ℕ) (lineality some : List (List ℤ)) → AreOfAmbient m cones → IsCommonLineality cones lineality → AreCommonRays cones some →
    AreFoundBefore cones some (length cones) read → AreAllFaces m cones lineality some members) → AreAllFaces n cones lin rays members
members_listed n cones given lin rays found read members ambient e lines up all er of = of n lin rays ambient lines up
    (subst (λ (z : List RowsAndRays). AreFoundBefore z rays (length z) read) e (subst (AreFoundBefore given rays (length given)) (sym er) all))

-- ---- the maximal cones

pub maximal_indices : (cones : List FanCone) (indices : List ℕ) → AreMaximal (numbers_of cones) indices → All (λ i. i < length cones) indices
maximal_indices cones indices m = all_by (λ i. i < length cones) indices (λ i c.
    let h = (m.each i c).inside in let long = numbers_long cones in omega (arith, h, long))

pub same_rows : (c d : RowsAndRays) → HasRowsAndRaysOf c d → rows_of c ≡ rows_of d
same_rows c d q = ap₂ (λ (i j : List (List ℤ)). record { inequalities = i; equations = j }) q.inequalities q.equations

pub maximal_long : (f : FanLists) → length (maximal_of f) ≡ length f.maximal
maximal_long f = length-map f.maximal (λ i. get_or f.cones i no_cone)

-- the one with a number stands at the index that has it
pub maximal_at : (f : FanLists) (i : ℕ) → i < length f.maximal → get_or (maximal_of f) i no_cone ≡ get_or f.cones (get_or f.maximal i 0) no_cone
maximal_at f i h = get_or-map (λ j. get_or f.cones j no_cone) f.maximal i 0 no_cone h

pub maximal_in : (f : FanLists) (i : ℕ) → i < length f.maximal → Contains (maximal_of f) (get_or (maximal_of f) i no_cone)
maximal_in f i h = let long = maximal_long f in Contains-get_or (maximal_of f) i no_cone (omega (arith, h, long))

-- it is one of the cones
pub maximal_listed : (f : FanLists) (i : ℕ) → IsFan f → i < length f.maximal → Contains f.cones (get_or (maximal_of f) i no_cone)
maximal_listed f i s h = maximal_some f.ambient s.0 f s.1 (get_or (maximal_of f) i no_cone) (maximal_in f i h)

pub maximal_ambient : (f : FanLists) (i : ℕ) → IsFan f → i < length f.maximal → (get_or (maximal_of f) i no_cone).cone.ambient ≡ f.ambient
maximal_ambient f i s h = (s.1.cones.each (get_or (maximal_of f) i no_cone) (maximal_listed f i s h)).ambient

pub whole_at : (f : FanLists) (whole : List RowsAndRays) (i : ℕ) (w : RowsAndRays) → AreWholeCones f.cones f.maximal whole → i < length f.maximal →
    w ≡ get_or whole i w → HasRowsAndRaysOf w (get_or (maximal_of f) i no_cone).cone
whole_at f whole i w a h e = subst (λ (z : FanCone). HasRowsAndRaysOf w z.cone) (sym (maximal_at f i h))
    (subst (λ (z : RowsAndRays). HasRowsAndRaysOf z (get_or f.cones (get_or f.maximal i 0) no_cone).cone) (sym e) (a.each i w h))

-- one of those is one of these
record IsWholeOf (f : FanLists) (w : RowsAndRays) : Type 0 where
  pub k : FanCone
  pub listed : Contains f.cones k
  pub same : HasRowsAndRaysOf w k.cone

whole_of : (f : FanLists) (whole : List RowsAndRays) (w : RowsAndRays) → IsFan f → AreWholeCones f.cones f.maximal whole → Contains whole w → IsWholeOf f w
whole_of f whole w s a c =
    let h = c.1 in let long = a.long in
    let l : c.0 < length f.maximal = omega (arith, h, long) in
    record { k = get_or (maximal_of f) c.0 no_cone; listed = maximal_listed f c.0 s l; same = whole_at f whole c.0 w a l (sym c.2) }

pub whole_ambient : (f : FanLists) (whole : List RowsAndRays) (m : ℕ) → IsFan f → AreWholeCones f.cones f.maximal whole → m ≡ f.ambient →
    All (λ (c : RowsAndRays). c.ambient ≡ m) whole
whole_ambient f whole m s a e = all_by (λ (c : RowsAndRays). c.ambient ≡ m) whole (λ w c.
    let q = whole_of f whole w s a c in q.same.ambient ∙ (s.1.cones.each q.k q.listed).ambient ∙ sym e)

-- a vector is in one of them exactly where it is in a cone of the fan
pub in_whole : (f : FanLists) (whole : List RowsAndRays) (v : List ℤ) → IsFan f → AreWholeCones f.cones f.maximal whole → length v ≡ f.ambient →
    IsInOne whole v ↔ IsInSome f.cones v
in_whole f whole v s a lv = (
  λ i. let q = whole_of f whole i.0 s a i.1.0 in
      (q.k, (q.listed, subst (λ (z : Rows). IsInCone z v) (same_rows i.0 q.k.cone q.same) i.1.1)),
  λ i.
      let k : FanCone = i.0 in
      let u = under_maximal f.ambient s.0 f k s.1 i.1.0 in
      let o : FanCone = u.over in
      let co : Contains f.cones o = maximal_some f.ambient s.0 f s.1 o u.listed in
      let j = u.listed.0 in let hj = u.listed.1 in let long = maximal_long f in let whole_long = a.long in
      let l : j < length f.maximal = omega (arith, hj, long) in
      let lw : j < length whole = omega (arith, l, whole_long) in
      let w : RowsAndRays = get_or whole j o.cone in
      let e : get_or (maximal_of f) j no_cone ≡ o = get_or_default (maximal_of f) j no_cone o hj ∙ u.listed.2 in
      let q : HasRowsAndRaysOf w o.cone = subst (λ (z : FanCone). HasRowsAndRaysOf w z.cone) e
      (whole_at f whole j w a l (get_or_default whole j o.cone w lw)) in (
        w,
        (
          Contains-get_or whole j o.cone lw,
          subst (λ (z : Rows). IsInCone z v) (sym (same_rows w o.cone q)) (inside_of f.ambient s.0 f k o s.1 i.1.0 co u.within v lv i.1.1),
        ),
      ),
)

pub step_of_whole : (f : FanLists) (whole : List RowsAndRays) (v : List ℤ) (e : WideVector) → IsFan f → AreWholeCones f.cones f.maximal whole →
    IsRowStep whole v e → IsHoldingStep f.cones v e
step_of_whole f whole v e s a r =
    let q = whole_of f whole r.c s a r.listed in
    record {
      k = q.k;
      row = r.row;
      listed = q.listed;
      own = elim r.own [
        | inl i ↦ inl (subst (λ z. Contains z r.row) q.same.inequalities i)
        | inr i ↦ inr (subst (λ z. Contains z r.row) q.same.equations i)
      ];
      wide = r.wide;
    }
