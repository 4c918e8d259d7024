use Rattle.gf_saturation_theory.proofs.LawsHold.{saturations_compose}
use Rattle.gf_saturation_theory.proofs.saturations_compose.Goals as goal

pub returns : goal.returns
returns c = saturations_compose
