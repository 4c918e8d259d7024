use Rattle.gf_ideal_theory.proofs.OrderTableLaws.{multiples_are_homogeneous as law}
use Rattle.gf_ideal_theory.proofs.multiples_are_homogeneous.Goals as goal

pub returns : goal.returns
returns c = law
