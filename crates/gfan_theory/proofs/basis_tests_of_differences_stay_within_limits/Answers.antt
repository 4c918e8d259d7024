use Rattle.gfan_theory.proofs.BasisTestLimits.{basis_tests_of_differences}
use Rattle.gfan_theory.proofs.basis_tests_of_differences_stay_within_limits.Goals as goal

pub returns : goal.returns
returns c = basis_tests_of_differences c.small_polynomials_stay_within_limits.ensures.polynomials
