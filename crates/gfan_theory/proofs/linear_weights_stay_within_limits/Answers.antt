use Rattle.gfan_theory.proofs.LinearChecks.{linear_weights}
use Rattle.gfan_theory.proofs.linear_weights_stay_within_limits.Goals as goal

pub returns : goal.returns
returns c = linear_weights
