-- Why there is no verdict.
use Rattle.std.specs.Prelude.{◌≡◌, ℕ, List, ℤ, None}
use Rattle.gf_poly.specs.Polynomial.{Terms}
use Rattle.gf_poly.specs.Marking.{MarkedPolynomial, MarkedPolynomials}
use Rattle.gf_exponents_theory.specs.SixOrders.{MonomialOrder}
use Rattle.gf_buchberger.specs.declared.bases.BasisError.{BasisError}
use Rattle.gf_buchberger.specs.declared.queue.Strategy.TheVariants.{Degree}
use Rattle.gf_buchberger.specs.Ruled.{AreRuledRunsWithinLimits}
use Rattle.gf_buchberger.specs.Bases.{IsBasisRefusal, IsWantOfMemory}
use Rattle.gf_duality_theory.specs.Faces.{Rows}
use Rattle.gf_fan.specs.FanLists.{FanLists}
use Rattle.gf_tropical.specs.declared.error.TropicalError.{TropicalError}
use Rattle.gf_tropical.specs.Refusals.{IsTropicalRefusal}
use Rattle.gf_tropical.specs.Systems.{IsPairSystem}
use Rattle.gf_facets_theory.specs.Normals.{AreNormals}
use Rattle.gf_reverse_theory.specs.Lists.{IsListFor}
use Rattle.gf_tree.specs.Ideals.{ideal_by}
use Rattle.gf_tree.specs.Refusals.{IsTreeRefusal}
use Rattle.gf_tree.specs.TreeError.{TreeError}
use Rattle.gf_initial_monomials.specs.declared.error.InitialError.{InitialError}
use Rattle.gf_initial_monomials.specs.declared.error.InitialError.TheVariants as initial
use Rattle.gf_initial_monomials.specs.Outcomes.{IsReached, HasOutcome}
use Rattle.gf_initial_monomials.specs.Refusals.{IsConeRefusal}
use Rattle.gf_tropical_basis_test.specs.declared.error.BasisTestError.{BasisTestError}
use Rattle.gf_tropical_basis_test.specs.declared.error.BasisTestError.TheVariants.{Prevariety, Root, Search, Initial, Memory}
use Rattle.gf_tropical_basis_test.specs.Verdicts.{HasBasisOutcome, IsTestFan, maximal_rows}

-- ---- one basis

-- a refusal at one of the cones, and all cones before it pass with the basis bs; or memory runs out
pub data IsRefusedWithBasis (n : ℕ) (cones : List Rows) (bs : List MarkedPolynomial) (pairs : ℕ) (e : InitialError) : Type 0 where
  at_cone : (normals : List (List ℤ)) (c : Rows) → AreNormals bs normals → IsReached (λ (d : Rows). HasOutcome n bs normals d None) cones c →
      IsConeRefusal n bs normals c pairs e → IsRefusedWithBasis n cones bs pairs e
  no_memory : e ≡ initial.Memory → IsRefusedWithBasis n cones bs pairs e

-- ---- all bases of the ideal of fs

-- a refusal at one of the bases, and all bases before it pass; a refusal of the search; or memory runs out
pub data AreBasesRefused (n : ℕ) (fs : List Terms) (cones : List Rows) (pairs : ℕ) (e : BasisTestError) : Type 0 where
  at_basis : (bases : List MarkedPolynomials) (b : MarkedPolynomials) (r : InitialError) → IsListFor (ideal_by n fs) bases →
      IsReached (λ (c : MarkedPolynomials). HasBasisOutcome n cones c.items None) bases b → IsRefusedWithBasis n cones b.items pairs r → e ≡ Initial r →
      AreBasesRefused n fs cones pairs e
  at_search : (r : TreeError) → IsTreeRefusal (ideal_by n fs) pairs r → e ≡ Search r → AreBasesRefused n fs cones pairs e
  no_memory : e ≡ Memory → AreBasesRefused n fs cones pairs e

-- ---- the test

-- a refusal of the prevariety; of the first basis, by deglex, which is want of memory where the run by the rule of the program stays within its limits; of
-- the bases, with the maximal cones of the prevariety by differences of exponents; or memory runs out
pub data IsVerdictRefusal (n : ℕ) (fs : List Terms) (pairs : ℕ) (e : BasisTestError) : Type 0 where
  at_prevariety : (r : TropicalError) → IsTropicalRefusal IsPairSystem n fs r → e ≡ Prevariety r → IsVerdictRefusal n fs pairs e
  at_root : (r : BasisError) → IsBasisRefusal MonomialOrder.deglex n fs pairs r
      × (AreRuledRunsWithinLimits Degree MonomialOrder.deglex fs pairs → IsWantOfMemory r) → e ≡ Root r → IsVerdictRefusal n fs pairs e
  at_bases : (h : FanLists) → IsTestFan n fs h → AreBasesRefused n fs (maximal_rows h) pairs e → IsVerdictRefusal n fs pairs e
  no_memory : e ≡ Memory → IsVerdictRefusal n fs pairs e
