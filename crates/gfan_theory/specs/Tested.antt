-- Marked sets whose test, and whose test of other polynomials, stays within its limits. Law: proofs/TestLimits.antt.
use Rattle.std.specs.Prelude.{ℕ, ◌≤◌, List}
use Rattle.gf_poly.specs.Polynomial.{Terms}
use Rattle.gf_poly.specs.Marking.{MarkedPolynomials}
use Rattle.gf_reduced.specs.Markings.{IsMarkedGroebnerBasis}
use Rattle.gfan_sets.specs.Marked.{marked_command}
use Rattle.gfan_sets.specs.Containment.{IsContainmentWithin}
use Rattle.gfan_theory.specs.Linear.{AreLinearDifferences, IsLinearSet}

-- In at most four variables, nothing that `_ismarkedgroebnerbasis` may do with a marked set of variables and differences of variables leaves its limits; nor,
-- if it is a Gröbner basis for its marking, anything that `_doesidealcontain` may do with it and variables and differences of variables.
pub record LinearTestsStayWithinLimits : Type 0 where
  pub tests : (ring : List (List ℕ)) (s : MarkedPolynomials) → IsLinearSet s → s.variables ≤ 4 → marked_command.IsWithin (ring, s)
  pub containments : (s : MarkedPolynomials) (fs : List Terms) → IsLinearSet s → s.variables ≤ 4 → IsMarkedGroebnerBasis s.variables s.items →
      AreLinearDifferences s.variables fs → IsContainmentWithin s fs
