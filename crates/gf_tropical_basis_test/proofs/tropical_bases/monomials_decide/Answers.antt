use Rattle.gf_tropical_basis_test.proofs.TestLaws.{monomials_decide}
use Rattle.gf_tropical_basis_test.proofs.tropical_bases.monomials_decide.Goals as goal

pub returns : goal.returns
returns c = monomials_decide
