use Rattle.gf_reverse_theory.proofs.LawsHold.{negative_normals_can_be_crossed}
use Rattle.gf_reverse_theory.proofs.negative_normals_can_be_crossed.Goals as goal

pub returns : goal.returns
returns c = negative_normals_can_be_crossed
