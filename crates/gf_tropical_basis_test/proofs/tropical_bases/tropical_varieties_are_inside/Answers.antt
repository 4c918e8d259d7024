use Rattle.gf_tropical_basis_test.proofs.InsideLaws.{free_inside}
use Rattle.gf_tropical_basis_test.proofs.tropical_bases.tropical_varieties_are_inside.Goals as goal

pub returns : goal.returns
returns c = free_inside
