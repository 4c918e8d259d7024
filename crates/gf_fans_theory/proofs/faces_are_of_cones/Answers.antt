use Rattle.gf_fans_theory.proofs.LawsHold.{faces_are_of_cones}
use Rattle.gf_fans_theory.proofs.faces_are_of_cones.Goals as goal

pub returns : goal.returns
returns c = faces_are_of_cones
