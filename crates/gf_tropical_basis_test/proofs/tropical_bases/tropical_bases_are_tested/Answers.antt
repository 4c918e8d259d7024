use Rattle.gf_tropical_basis_test.proofs.TestLaws.{tropical_bases_are_tested}
use Rattle.gf_tropical_basis_test.proofs.tropical_bases.tropical_bases_are_tested.Goals as goal

pub returns : goal.returns
returns c = tropical_bases_are_tested
