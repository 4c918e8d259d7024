-- The maximal cones of a fan: each is inside no other cone of it, and is all of what it was found as a face of.
use Rattle.std.proofs.Common.{◌≡◌, ◌<◌, ℕ, List, [], length, get_or, ℤ, Contains, arith, sym, ap, ◌∙◌, subst, inl, inr}
use Rattle.std.proofs.lemmas.Bool.{cases_eq}
use Rattle.std.proofs.lemmas.List.{get_or_default}
use Rattle.gf_int_theory.proofs.ListLaws.{all_by}
use Rattle.gf_duality_theory.specs.Faces.{Rows, SameCone, IsInCone, part}
use Rattle.gf_duality_theory.proofs.ListLaws.{none_in}
use Rattle.gf_fans_theory.proofs.FanLaws.{of_part, part_in, same_turned}
use Rattle.gf_fans_theory.proofs.PartNumbers.{of_map}
use Rattle.gf_rays.specs.Cones.{RowsAndRays, rows_of}
use Rattle.gf_fan.specs.declared.cones.FanCone.{FanCone}
use Rattle.gf_fan.specs.FaceSystems.{IsFaceSystem}
use Rattle.gf_fan.specs.FanLists.{FanLists}
use Rattle.gf_fan.specs.FansOfCones.{IsFanOf, vanishing_rows}
use Rattle.gf_fan.specs.Laws.{IsInsideCone}
use Rattle.gf_fan.specs.MaximalCones.{no_cone, maximal_of}
use Rattle.gf_fan.proofs.FanConeLaws.{numbers_of_inside}
use Rattle.gf_fan.proofs.MaximalLaws.{numbers_long, within_at}
use Rattle.gf_fan.proofs.UnderMaximal.{maximal_some, given_face}
use Rattle.gf_patterns_theory.specs.Patterns.{IsClosedCone}
use Rattle.gf_patterns_theory.proofs.MeetLaws.{same_trans, same_refl}
use Rattle.gf_tropical.specs.Systems.{IsWholeOf, IsMaximalIn}
use Rattle.gf_tropical.specs.TropicalFans.{IsPatternFan}

-- it is inside no other cone of the fan
pub maximal_alone : (n : ℕ) (given : List RowsAndRays) (h : FanLists) (k l : FanCone) → IsFanOf n given h → Contains (maximal_of h) k → Contains h.cones l →
    IsInsideCone n (rows_of k.cone) (rows_of l.cone) → SameCone n (rows_of k.cone) (rows_of l.cone)
maximal_alone n given h k l s m c w =
    let x = of_map (λ i. get_or h.cones i no_cone) h.maximal k m in
    let top = s.maximal.each x.0 x.1.0 in
    let inside = top.inside in
    let long = numbers_long h.cones in
    let hi : x.0 < length h.cones = omega (arith, inside, long) in
    let ek : k ≡ get_or h.cones x.0 k = sym x.1.1 ∙ get_or_default h.cones x.0 no_cone k hi in
    let el : l ≡ get_or h.cones c.0 l = sym c.2 in
    elim (cases_eq c.0 x.0) [
      | inl e ↦
          let same : k ≡ l = sym x.1.1 ∙ get_or_default h.cones x.0 no_cone l hi ∙ ap (λ i. get_or h.cones i l) (sym e) ∙ c.2 in
          subst (λ (z : FanCone). SameCone n (rows_of k.cone) (rows_of z.cone)) same (same_refl n (rows_of k.cone))
      | inr d ↦
          let hj = c.1 in
          absurd (top.alone c.0 (omega (arith, hj, long)) d (within_at h.cones x.0 c.0 k l k.numbers l.numbers hi c.1 ek el (λ i. k.numbers) (λ i. l.numbers)
          (numbers_of_inside n given h k l s (maximal_some n given h s k m) c w)))
    ]

-- of a face of c that is maximal, where c is a cone of the fan
pub whole_of : (n : ℕ) (given : List RowsAndRays) (h : FanLists) (k l : FanCone) (c : Rows) → IsFanOf n given h → Contains (maximal_of h) k →
    Contains h.cones l → SameCone n c (rows_of l.cone) → IsFaceSystem n c (rows_of k.cone) → IsWholeOf n c (rows_of k.cone)
whole_of n given h k l c s m kl same face =
    let flat : List (List ℤ) = vanishing_rows c.inequalities face.rays in
    let inside : IsInsideCone n (rows_of k.cone) (rows_of l.cone) =
    λ v lv i. (same v lv).0 (of_part c flat v (subst (λ (z : Rows). IsInCone z v) face.rows i)) in
    record {
      face = face;
      same = same_trans n c (rows_of l.cone) (rows_of k.cone) same
          (same_turned n (rows_of k.cone) (rows_of l.cone) (maximal_alone n given h k l s m kl inside));
    }

-- so of the cones that the fan is of
pub whole_of_given : (n : ℕ) (given : List RowsAndRays) (h : FanLists) (k : FanCone) (o : RowsAndRays) → IsFanOf n given h → Contains (maximal_of h) k →
    Contains given o → IsFaceSystem n (rows_of o) (rows_of k.cone) → IsWholeOf n (rows_of o) (rows_of k.cone)
whole_of_given n given h k o s m ko face =
    let c : Rows = rows_of o in
    let l = given_face n given h o [] s ko (all_by (Contains o.inequalities) [] (λ t i. absurd (none_in t i))) in
    let none : SameCone n c (part c []) = λ v lv. (λ i. part_in c [] v i (λ t j. absurd (none_in t j)), λ i. of_part c [] v i) in
    whole_of n given h k l.0 c s m l.1.0 (same_trans n c (part c []) (rows_of l.0.cone) none l.1.1) face

-- it is inside no other closed cone of a vector that is admitted
pub maximal_in : (Admitted : List (List (List ℤ)) → List ℤ → Type 0) (n : ℕ) (As : List (List (List ℤ))) (h : FanLists) (k : FanCone) →
    IsPatternFan Admitted n As h → Contains (maximal_of h) k → IsMaximalIn Admitted n As (rows_of k.cone)
maximal_in Admitted n As h k p m x cl w =
    let a = p.every cl.vector cl.width cl.admitted in let l : FanCone = a.1 in
    let closed : IsClosedCone n As cl.vector (rows_of l.cone) = a.4 in
    let same : SameCone n x (rows_of l.cone) = λ u lu. (λ i. (closed u lu).1 ((cl.closed u lu).0 i), λ i. (cl.closed u lu).1 ((closed u lu).0 i)) in
    let s : IsFanOf n p.fan.0 h = subst (λ z. IsFanOf z p.fan.0 h) p.ambient p.fan.1 in
    same_trans n (rows_of k.cone) (rows_of l.cone) x (maximal_alone n p.fan.0 h k l s m (a.0, a.2, a.3) (λ v lv i. (same v lv).0 (w v lv i)))
    (same_turned n x (rows_of l.cone) same)
