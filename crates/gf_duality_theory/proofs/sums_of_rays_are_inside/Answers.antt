use Rattle.gf_duality_theory.proofs.LawsHold.{sums_of_rays_are_inside}
use Rattle.gf_duality_theory.proofs.sums_of_rays_are_inside.Goals as goal

pub returns : goal.returns
returns c = sums_of_rays_are_inside
