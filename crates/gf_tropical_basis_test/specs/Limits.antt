-- When the only possible error is that memory runs out. Laws: proofs/LimitLaws.antt.
use Rattle.std.specs.Prelude.{◌≡◌, ℕ, List, ℤ, Contains}
use Rattle.gf_exponents_theory.specs.SixOrders.{MonomialOrder}
use Rattle.gf_poly.specs.Polynomial.{Terms}
use Rattle.gf_poly.specs.Marking.{MarkedPolynomials}
use Rattle.gf_buchberger.specs.declared.queue.Strategy.TheVariants.{Degree}
use Rattle.gf_buchberger.specs.Ruled.{AreRuledRunsWithinLimits}
use Rattle.gf_buchberger.specs.Bases.{IsWantOfMemory}
use Rattle.gf_duality_theory.specs.Faces.{Rows}
use Rattle.gf_fan.specs.FanLists.{FanLists}
use Rattle.gf_tropical.specs.declared.error.TropicalError.TheVariants as tropical
use Rattle.gf_tropical.specs.Refusals.{IsTropicalWithinLimits}
use Rattle.gf_tropical.specs.Systems.{IsPairSystem}
use Rattle.gf_facets_theory.specs.Normals.{AreNormals}
use Rattle.gf_reverse_theory.specs.Upward.{IsNodeIn}
use Rattle.gf_tree.specs.Ideals.{ideal_by}
use Rattle.gf_tree.specs.Refusals.{IsTreeWithinLimits}
use Rattle.gf_tree.specs.TreeError.TheVariants as tree
use Rattle.gf_initial_monomials.specs.Limits.{AreFacesWithinLimits, IsMemoryWanted}
use Rattle.gf_tropical_basis_test.specs.declared.error.BasisTestError.{BasisTestError}
use Rattle.gf_tropical_basis_test.specs.declared.error.BasisTestError.TheVariants.{Prevariety, Root, Search, Initial, Memory}
use Rattle.gf_tropical_basis_test.specs.Verdicts.{IsTestFan, maximal_rows}

-- memory ran out, in whichever part of the test
abbrev pub HasNoMemory : BasisTestError → Type 0
HasNoMemory (Prevariety r) = r ≡ tropical.Memory
HasNoMemory (Root r) = IsWantOfMemory r
HasNoMemory (Search r) = r ≡ tree.Memory
HasNoMemory (Initial r) = IsMemoryWanted r
HasNoMemory Memory = Unit {0}

-- each part of the test is within its limits: the prevariety, with no polynomial zero; the run by deglex that follows the rule of the program; the search
-- over the bases; and for each basis and each maximal cone of the prevariety, by rows each of which is the difference of two exponents of one polynomial, the
-- faces of the intersection of the closed cones
pub record IsTestWithinLimits (n : ℕ) (fs : List Terms) (pairs : ℕ) : Type 0 where
  pub prevariety : IsTropicalWithinLimits IsPairSystem n fs
  pub root : AreRuledRunsWithinLimits Degree MonomialOrder.deglex fs pairs
  pub search : IsTreeWithinLimits (ideal_by n fs) pairs
  pub faces : (h : FanLists) (b : MarkedPolynomials) (normals : List (List ℤ)) (c : Rows) → IsTestFan n fs h → IsNodeIn (ideal_by n fs) b →
      AreNormals b.items normals → Contains (maximal_rows h) c → AreFacesWithinLimits n b.items normals c pairs
