use Rattle.std.proofs.Common.{length, ap, ◌∙◌}
use Rattle.gf_division.proofs.StepLaws.{head_length}
use Rattle.gf_lifts.proofs.TopLaws.{top_index, top_there, top_lift_at, top_lifted_variables}
use Rattle.gf_lifts.proofs.tops.top_lift.Goals as goal

pub top_remainder-requires-clause-variables : goal.top_remainder-requires-clause-variables
top_remainder-requires-clause-variables c = ap length c.head.ensures.value ∙ head_length (length c.args.normal.now) c.args.member.now c.requires.poly
    c.head.ensures.marked

pub index_of-index-requires-clause-variables : goal.index_of-index-requires-clause-variables
index_of-index-requires-clause-variables c = top_index c.args.by.now c.args.normal.now (length c.args.normal.now) c.args.member.now c.in-Ok.copy
    c.poly-2.result.now c.in_ok-rest.rest c.in-Ok-sub.poly c.terms.result.now c.head.result.now c.head-2.result.now
    (c.in-Ok.ensures ∙ c.poly.ensures) c.poly-2.ensures c.requires.poly c.in_ok-rest.ensures c.in-Ok-sub.ensures.variables c.terms.ensures.value
    c.head-2.ensures.value c.head.ensures.marked

pub index_of-index-requires-clause-there : goal.index_of-index-requires-clause-there
index_of-index-requires-clause-there c = top_there c.args.by.now c.args.normal.now (c.args.pivot, c.requires.nonzero) c.args.member.now c.in-Ok.copy
    c.poly-2.result.now c.in_ok-rest.rest c.in-Ok-sub.poly c.terms.result.now c.head.result.now c.head-2.result.now c.requires.monic
    (c.in-Ok.ensures ∙ c.poly.ensures) c.poly-2.ensures c.head.ensures.value c.head-2.ensures.value c.in_ok-rest.ensures c.in-Ok-sub.ensures.difference
    c.terms.ensures.value

pub returns-clause-value : goal.returns-clause-value
returns-clause-value c = top_lift_at c.args.by.now c.args.normal.now (c.args.pivot, c.requires.nonzero) c.args.member.now c.mark.result c.in-Ok.copy
    c.poly-2.result.now c.in_ok-rest.rest c.in-Ok-sub.poly c.terms.result.now c.head.result.now c.head-2.result.now c.index_of-index.result
    (c.in-Ok.ensures ∙ c.poly.ensures) c.poly-2.ensures c.head.ensures.value c.in_ok-rest.ensures c.in-Ok-sub.ensures.difference c.terms.ensures.value
    c.head-2.ensures.value c.index_of-index.ensures.head c.mark.ensures

pub returns-clause-variables : goal.returns-clause-variables
returns-clause-variables c = top_lifted_variables c.args.by.now c.args.normal.now (length c.args.normal.now) c.args.member.now c.mark.result c.in-Ok.copy
    c.poly-2.result.now c.in_ok-rest.rest c.in-Ok-sub.poly c.head.result.now c.index_of-index.result (c.in-Ok.ensures ∙ c.poly.ensures) c.poly-2.ensures
    c.requires.poly c.in_ok-rest.ensures c.in-Ok-sub.ensures.variables c.mark.ensures
