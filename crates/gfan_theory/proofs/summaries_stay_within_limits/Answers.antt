use Rattle.gfan_theory.proofs.SummaryLimits.{summaries}
use Rattle.gfan_theory.proofs.summaries_stay_within_limits.Goals as goal

pub returns : goal.returns
returns c = summaries
