use Rattle.gf_quotients_theory.proofs.LawsHold.{quotients_saturate}
use Rattle.gf_quotients_theory.proofs.quotients_saturate.Goals as goal

pub returns : goal.returns
returns c = quotients_saturate
