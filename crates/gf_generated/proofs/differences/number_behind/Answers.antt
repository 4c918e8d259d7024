use Rattle.std.proofs.Common.{refl}
use Rattle.gf_generated.proofs.GeneratedLaws.{number_none, number_more, next_below}
use Rattle.gf_generated.proofs.differences.number_behind.Goals as goal

pub steps-init : goal.steps-init
steps-init c = (number_none c.args.first c.args.first 0 refl refl, c.requires)

pub steps-preserved : goal.steps-preserved
steps-preserved c = (number_more c.args.first c.steps.step c.steps.at _ c.steps.invariant.0 refl, next_below c.steps.at)
