use Rattle.gf_tropical_basis_test.proofs.MonomialTests.{tests_of_monomials_stay_within_limits}
use Rattle.gf_tropical_basis_test.proofs.laws.tests_of_monomials_stay_within_limits.Goals as goal

pub returns : goal.returns
returns c = tests_of_monomials_stay_within_limits c.small_polynomials_stay_within_limits.ensures.polynomials c.limits_are_met.ensures
