use Rattle.gf_duality_theory.proofs.LawsHold.{rays_are_unique}
use Rattle.gf_duality_theory.proofs.rays_are_unique.Goals as goal

pub returns : goal.returns
returns c = rays_are_unique
