use Rattle.gf_quotients_theory.proofs.LawsHold.{saturations_may_be_divided}
use Rattle.gf_quotients_theory.proofs.saturations_may_be_divided.Goals as goal

pub returns : goal.returns
returns c = saturations_may_be_divided
