use Rattle.gf_front.specs.declared.refusal.Refusal.TheVariants as refusals
use Rattle.gfan_callers.proofs.StatusLaws.{is_done, is_usage, matched, told_as}
use Rattle.gfan_callers.proofs.runs.code_of_run.Goals as goal

pub returns-clause-usage : goal.returns-clause-usage
returns-clause-usage g c = λ two. c.run.ensures.follows.usage (is_usage c.run.result c.code.result c.code.ensures two)

pub returns-clause-matched : goal.returns-clause-matched
returns-clause-matched g c = matched _ _ _ _ _ _ c.run.result c.code.result c.code.ensures c.run.ensures.done c.run.ensures.refused

pub returns-clause-told : goal.returns-clause-told
returns-clause-told g c = told_as _ _ _ _ _ _ _ _ _ _ c.run.result c.code.result c.code.ensures c.run.ensures.told

pub returns-clause-usage_told : goal.returns-clause-usage_told
returns-clause-usage_told g c = λ two. (c.run.ensures.told refusals.Usage (is_usage c.run.result c.code.result c.code.ensures two)).written

pub returns-clause-silent : goal.returns-clause-silent
returns-clause-silent g c = λ none. c.run.ensures.silent (is_done c.run.result c.code.result c.code.ensures none)
