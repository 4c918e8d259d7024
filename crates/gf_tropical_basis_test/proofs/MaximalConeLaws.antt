-- The faces of the maximal cones of a prevariety are all its cones. To cite: maximal_patterns.
use Rattle.std.proofs.Common.{ℕ, List, ℤ, Contains, subst}
use Rattle.gf_gordan.specs.Alternative.{GordansAlternative}
use Rattle.gf_duality_theory.specs.Faces.{Rows, SameCone}
use Rattle.gf_fans_theory.proofs.FanLaws.{own_face, same_turned}
use Rattle.gf_fans_theory.proofs.PartNumbers.{in_map}
use Rattle.gf_rays.specs.Cones.{rows_of}
use Rattle.gf_fan.specs.declared.cones.FanCone.{FanCone}
use Rattle.gf_fan.specs.FanLists.{FanLists}
use Rattle.gf_fan.specs.FansOfCones.{IsFanOf}
use Rattle.gf_refine.specs.FanRows.{fan_rows}
use Rattle.gf_refine.specs.Laws.{FansAreConeLists}
use Rattle.gf_refine.proofs.MaximalLaws.{maximal_faces}
use Rattle.gf_patterns_theory.specs.Refinements.{IsFaceOfSome}
use Rattle.gf_patterns_theory.specs.Patterns.{IsClosedConeOf, IsOnPrevariety, ArePatternCones}
use Rattle.gf_patterns_theory.proofs.CoverLaws.{patterns_same}
use Rattle.gf_tropical.specs.TropicalFans.{IsPrevarietyFan}
use Rattle.gf_tropical_basis_test.specs.Verdicts.{maximal_rows}

abbrev row : FanCone → Rows
row k = rows_of k.cone

-- ---- all cones

closed_of : (n : ℕ) (As : List (List (List ℤ))) (f g : Rows) → SameCone n f g → IsClosedConeOf IsOnPrevariety n As f → IsClosedConeOf IsOnPrevariety n As g
closed_of n As f g same c = record {
  vector = c.vector;
  width = c.width;
  admitted = c.admitted;
  closed = λ u lu. (λ i. (c.closed u lu).0 ((same u lu).1 i), λ k. (same u lu).0 ((c.closed u lu).1 k));
}

all_patterns : (n : ℕ) (As : List (List (List ℤ))) (h : FanLists) → FansAreConeLists → IsPrevarietyFan n As h → ArePatternCones IsOnPrevariety n As (fan_rows h)
all_patterns n As h law p = record {
  each = λ f x.
      let t = faces f x in let k : FanCone = t.0 in
      closed_of n As (rows_of k.cone) f (same_turned n f (rows_of k.cone) t.1.1) (p.each k t.1.0);
  every = λ w lw o.
      let a = p.every w lw o in let k : FanCone = a.1 in
      (rows_of k.cone, (record { cone = rows_of k.cone; listed = in_map row h.cones k (a.0, a.2, a.3); face = own_face n (rows_of k.cone) }, a.4));
}
  where
    faces : (f : Rows) → IsFaceOfSome n (fan_rows h) f → (k : FanCone) × (Contains h.cones k × SameCone n f (rows_of k.cone))
    faces f = subst (λ m. IsFaceOfSome m (fan_rows h) f → (k : FanCone) × (Contains h.cones k × SameCone m f (rows_of k.cone))) p.ambient (law.faces h f p.fan)

-- ---- the maximal ones

pub maximal_patterns : (n : ℕ) (As : List (List (List ℤ))) (h : FanLists) → GordansAlternative → FansAreConeLists → IsPrevarietyFan n As h →
    ArePatternCones IsOnPrevariety n As (maximal_rows h)
maximal_patterns n As h gordan law p =
    let s : IsFanOf n p.fan.0 h = subst (λ z. IsFanOf z p.fan.0 h) p.ambient p.fan.1 in
    patterns_same IsOnPrevariety n As (fan_rows h) (maximal_rows h)
    (λ x. let e = maximal_faces n p.fan.0 h gordan s x in (e.1, e.0)) (all_patterns n As h law p)
