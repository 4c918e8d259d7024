use Rattle.gfan_theory.proofs.SpaceLimits.{statistics_of_small_sets_fit, spaces_of_small_sets_fit}
use Rattle.gfan_theory.proofs.spaces_of_small_sets_stay_within_limits.Goals as goal

pub returns-clause-statistics : goal.returns-clause-statistics
returns-clause-statistics c = statistics_of_small_sets_fit

pub returns-clause-spaces : goal.returns-clause-spaces
returns-clause-spaces c = spaces_of_small_sets_fit
