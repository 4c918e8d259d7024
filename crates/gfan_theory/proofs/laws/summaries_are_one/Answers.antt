use Rattle.gfan_generated.proofs.SummaryLaws.{one_summary}
use Rattle.gfan_theory.proofs.laws.summaries_are_one.Goals as goal

pub returns : goal.returns
returns c = one_summary
