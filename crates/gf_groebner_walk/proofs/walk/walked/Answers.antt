use Rattle.std.proofs.Common.{sym, ◌∙◌}
use Rattle.gf_groebner_walk.proofs.WalkLaws.{walked_none, walked_more, walk_ends, some_walked}
use Rattle.gf_groebner_walk.proofs.walk.walked.Goals as goal

pub steps-init : goal.steps-init
steps-init c = walked_none c.args.start

pub next_step-requires-clause-basis : goal.next_step-requires-clause-basis
next_step-requires-clause-basis c = some_walked c.args.start c.steps.here c.requires.basis c.steps.invariant

pub next_step-requires-clause-width : goal.next_step-requires-clause-width
next_step-requires-clause-width c = c.requires.width ∙ sym c.steps.invariant.variables

pub returns-in-Arrived : goal.returns-in-Arrived
returns-in-Arrived c = walk_ends c.args.weight.now c.args.start c.steps.here c.in_ok-told.told c.steps.invariant c.in_ok-told.ensures c.in-Arrived.is

pub steps-preserved : goal.steps-preserved
steps-preserved c = walked_more c.args.weight.now c.args.start c.steps.here c.in-Across.next c.in_ok-told.told c.steps.invariant c.in_ok-told.ensures
    c.in-Across.is
