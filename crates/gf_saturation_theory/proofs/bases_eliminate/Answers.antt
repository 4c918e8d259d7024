use Rattle.gf_saturation_theory.proofs.LawsHold.{bases_eliminate}
use Rattle.gf_saturation_theory.proofs.bases_eliminate.Goals as goal

pub returns : goal.returns
returns c = bases_eliminate
