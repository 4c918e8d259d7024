use Rattle.gf_fans_theory.proofs.LawsHold.{faces_are_ray_lists}
use Rattle.gf_fans_theory.proofs.faces_are_ray_lists.Goals as goal

pub returns : goal.returns
returns c = faces_are_ray_lists
