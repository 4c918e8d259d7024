use Rattle.gfan_theory.proofs.GivenLimits.{given_lists}
use Rattle.gfan_theory.proofs.given_lists_stay_within_limits.Goals as goal

pub returns : goal.returns
returns c = given_lists
