use Rattle.gf_saturation_theory.proofs.LawsHold.{saturations_are_worked_out}
use Rattle.gf_saturation_theory.proofs.saturations_are_worked_out.Goals as goal

pub returns : goal.returns
returns c = saturations_are_worked_out
