use Rattle.gf_division.proofs.NormalFormLaws.{some_weight, same_variables}
use Rattle.gf_lifts.proofs.LiftsInTurnLaws.{rest_if}
use Rattle.gf_lifts.proofs.wide.rest_of.Goals as goal

pub wide_remainder-requires-clause-marked : goal.wide_remainder-requires-clause-marked
wide_remainder-requires-clause-marked c = some_weight c.args.set.now.variables c.args.set.now.items c.items.result.now c.items.ensures.value c.requires.marked

pub wide_remainder-requires-clause-variables : goal.wide_remainder-requires-clause-variables
wide_remainder-requires-clause-variables c = same_variables c.args.set.now.variables c.args.member.now.poly c.poly.result.now c.args.set.now.items
    c.items.result.now c.poly.ensures c.items.ensures.value c.requires.variables c.items.ensures.variables

pub returns : goal.returns
returns c = rest_if c.args.set.now.items c.items.result.now c.args.member.now c.poly.result.now c.wide_remainder.result c.items.ensures.value c.poly.ensures
    c.wide_remainder.ensures.value c.wide_remainder.ensures.variables
