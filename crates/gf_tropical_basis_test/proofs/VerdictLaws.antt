-- The first verdict is right. To cite: verdict_right.
use Rattle.std.specs.Prelude.{None, Some}
use Rattle.std.proofs.Common.{◌≡◌, ℕ, List, ℤ, map, length, refl}
use Rattle.gf_exponents_theory.specs.SixOrders.{MonomialOrder}
use Rattle.gf_poly.specs.Polynomial.{Terms}
use Rattle.gf_poly.specs.Marking.{MarkedPolynomial, MarkedPolynomials}
use Rattle.gf_gordan.specs.Alternative.{GordansAlternative}
use Rattle.gf_buchberger.specs.Tasks.{HaveRingVariables, HaveOneDegree, IsSuited}
use Rattle.gf_buchberger.proofs.TaskLaws.{orders_that_suit, ring_variables}
use Rattle.gf_fan.specs.FanLists.{FanLists}
use Rattle.gf_refine.specs.Laws.{FansAreConeLists}
use Rattle.gf_patterns_theory.specs.Patterns.{points}
use Rattle.gf_tropical.specs.TropicalFans.{IsPrevarietyFan}
use Rattle.gf_facets_theory.specs.MarkedBases.{IsMarkedReducedBasis}
use Rattle.gf_facets_theory.proofs.SystemLaws.{all_positive-region}
use Rattle.gf_bases_theory.proofs.FiniteLaws.{basis_everywhere}
use Rattle.gf_reverse_theory.specs.Upward.{IsNodeIn}
use Rattle.gf_reverse_theory.proofs.FanLaws.{of_among, among_of}
use Rattle.gf_tree.specs.Ideals.{ideal_by}
use Rattle.gf_tropical_basis_test.specs.Tests.{IsFailedAt}
use Rattle.gf_tropical_basis_test.specs.TropicalBases.{IsBasisTest}
use Rattle.gf_tropical_basis_test.proofs.TestLaws.{tropical_bases_are_tested}
use Rattle.gf_initial_monomials.proofs.OutcomeLaws.{reached_in}
use Rattle.gf_tropical_basis_test.specs.declared.verdict.Verdict.{Verdict}
use Rattle.gf_tropical_basis_test.specs.declared.verdict.Verdict.TheVariants.{Yes, No}
use Rattle.gf_tropical_basis_test.specs.Verdicts.{IsVerdict, IsFirstVerdict, HasBasisOutcome, HaveBasesOutcome, maximal_rows}
use Rattle.gf_tropical_basis_test.proofs.MaximalConeLaws.{maximal_patterns}
use Rattle.gf_tropical_basis_test.proofs.FaceTestLaws.{passes, fails}

-- ---- the test

suited : (n : ℕ) (fs : List Terms) → HaveRingVariables n fs → HaveOneDegree fs → IsSuited MonomialOrder.revlex n fs
suited n fs v one = orders_that_suit.revlex n fs v one

is_test : (n : ℕ) (fs : List Terms) (h : FanLists) (v : HaveRingVariables n fs) (one : HaveOneDegree fs) → GordansAlternative → FansAreConeLists →
    IsPrevarietyFan n (map points fs) h → IsBasisTest n (suited n fs v one).grade fs (maximal_rows h)
is_test n fs h v one gordan law p = record {
  variables = ring_variables n fs v;
  positive = (suited n fs v one).admissible;
  homogeneous = (suited n fs v one).homogeneous;
  cones_are = maximal_patterns n (map points fs) h gordan law p;
}

-- a marked reduced basis is one of the list
listed : (n : ℕ) (fs : List Terms) (bs : List MarkedPolynomial) → HaveRingVariables n fs → IsMarkedReducedBasis n fs bs →
    IsNodeIn (ideal_by n fs) (record { variables = n; items = bs })
listed n fs bs v b = record {
  fan = record { ideal = ring_variables n fs v; region = all_positive-region n };
  variables = refl;
  basis = basis_everywhere n fs bs b;
}

of_listed : (n : ℕ) (fs : List Terms) (b : MarkedPolynomials) → IsNodeIn (ideal_by n fs) b → IsMarkedReducedBasis n fs b.items
of_listed n fs b k = record { reduced = k.basis.reduced; arranged = k.basis.arranged }

-- ---- the verdict

yes_right : (n : ℕ) (fs : List Terms) (h : FanLists) (v : HaveRingVariables n fs) (one : HaveOneDegree fs) →
    IsBasisTest n (suited n fs v one).grade fs (maximal_rows h) → HaveBasesOutcome n fs (maximal_rows h) None → IsVerdict n fs Yes
yes_right n fs h v one t o = tropical_bases_are_tested.yes n (suited n fs v one).grade fs (maximal_rows h) t (λ bs b.
    let x : MarkedPolynomials = record { variables = n; items = bs } in
    passes n bs (maximal_rows h) b.arranged.canonical (o.outcome x (of_among o.bases x (o.are_bases.all x (listed n fs bs v b)))))

no_right : (n : ℕ) (fs : List Terms) (h : FanLists) (u : List ℤ) (v : HaveRingVariables n fs) (one : HaveOneDegree fs) →
    IsBasisTest n (suited n fs v one).grade fs (maximal_rows h) → HaveBasesOutcome n fs (maximal_rows h) (Some u) → IsVerdict n fs (No u)
no_right n fs h u v one t o =
    let b : MarkedPolynomials = o.outcome.0 in
    let node : IsNodeIn (ideal_by n fs) b = o.are_bases.only b
    (among_of o.bases b (reached_in (λ (c : MarkedPolynomials). HasBasisOutcome n (maximal_rows h) c.items None) o.bases b o.outcome.1)) in
    let f : (length u ≡ n) × IsFailedAt n fs (maximal_rows h) u = fails n fs (maximal_rows h) b.items u (of_listed n fs b node) o.outcome.2 in
    let w = tropical_bases_are_tested.no n (suited n fs v one).grade fs (maximal_rows h) u t f.0 f.1 in
    (f.0, w.0, w.1)

pub verdict_right : (n : ℕ) (fs : List Terms) (verdict : Verdict) → HaveRingVariables n fs → HaveOneDegree fs → GordansAlternative → FansAreConeLists →
    IsFirstVerdict n fs verdict → IsVerdict n fs verdict
verdict_right n fs Yes v one gordan law i = yes_right n fs i.fan v one (is_test n fs i.fan v one gordan law i.is_fan) i.outcome
verdict_right n fs (No u) v one gordan law i = no_right n fs i.fan u v one (is_test n fs i.fan v one gordan law i.is_fan) i.outcome
