use Rattle.gf_tropical_basis_test.proofs.EndLaws.{all_have}
use Rattle.gf_tropical_basis_test.proofs.test.are_in.Goals as goal

pub returns : goal.returns
returns c = all_have c.args.n c.args.set.now c.requires
