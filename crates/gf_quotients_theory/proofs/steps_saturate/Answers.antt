use Rattle.gf_quotients_theory.proofs.LawsHold.{steps_saturate}
use Rattle.gf_quotients_theory.proofs.steps_saturate.Goals as goal

pub returns : goal.returns
returns c = steps_saturate
