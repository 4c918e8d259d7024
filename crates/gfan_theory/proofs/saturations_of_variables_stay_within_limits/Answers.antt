use Rattle.gfan_theory.proofs.SaturationLimits.{saturations_of_variables}
use Rattle.gfan_theory.proofs.saturations_of_variables_stay_within_limits.Goals as goal

pub returns : goal.returns
returns c = saturations_of_variables
