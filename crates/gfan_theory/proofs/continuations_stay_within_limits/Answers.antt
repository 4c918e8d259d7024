use Rattle.gfan_theory.proofs.ContinuedLaws.{continuations, continuations_within}
use Rattle.gfan_theory.proofs.continuations_stay_within_limits.Goals as goal

pub returns-clause-everywhere : goal.returns-clause-everywhere
returns-clause-everywhere c = continuations

pub returns-clause-within : goal.returns-clause-within
returns-clause-within c = continuations_within
