use Rattle.gf_saturation_theory.proofs.LawsHold.{variables_one_by_one}
use Rattle.gf_saturation_theory.proofs.variables_one_by_one.Goals as goal

pub returns : goal.returns
returns c = variables_one_by_one
