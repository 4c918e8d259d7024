use Rattle.std.proofs.lemmas.Result.{err_from_is_err_and}
use Rattle.gf_lifts.proofs.LiftRefusalSteps.{remainder_refused, difference_refused}
use Rattle.gf_lifts.proofs.LiftSteps.{index_variables, index_there, lift_at, lift_variables}
use Rattle.gf_lifts.proofs.literal.lift.Goals as goal

pub index_of-index-requires-clause-variables : goal.index_of-index-requires-clause-variables
index_of-index-requires-clause-variables c = index_variables c.args.by.now.variables c.args.member.now _ _ _ _ c.head-head.result.now c.poly-2.ensures
    c.in_ok-poly.ensures.variables c.requires.variables c.in_ok-rest.ensures.variables c.terms.ensures.value c.head-head.ensures.value
    c.head-head.ensures.marked

pub index_of-index-requires-clause-there : goal.index_of-index-requires-clause-there
index_of-index-requires-clause-there c = index_there c.args.by.now.items c.args.member.now _ _ _ _ _ c.head-head.result.now c.poly.ensures c.poly-2.ensures
    c.requires.liftable c.in_ok-rest.ensures.value c.in_ok-poly.ensures.difference c.terms.ensures.value c.head-head.ensures.value

pub returns-clause-value : goal.returns-clause-value
returns-clause-value c = lift_at c.args.by.now.items c.args.member.now c.mark.result _ _ _ _ _ c.head-head.result.now _ c.poly.ensures c.poly-2.ensures
    c.in_ok-rest.ensures.value c.in_ok-poly.ensures.difference c.terms.ensures.value c.head-head.ensures.value c.index_of-index.ensures.head c.mark.ensures

pub returns-clause-variables : goal.returns-clause-variables
returns-clause-variables c = lift_variables c.args.by.now.variables c.args.member.now c.mark.result _ _ _ _ c.poly-2.ensures c.in_ok-poly.ensures.variables
    c.requires.variables c.in_ok-rest.ensures.variables c.mark.ensures

pub returns-in_err-poly-clause-cause : goal.returns-in_err-poly-clause-cause
returns-in_err-poly-clause-cause c =
    let p = err_from_is_err_and c.from_residual-in_err-poly.result c.from_residual-in_err-poly.ensures.1 in
    rw (p.1, p.2) (difference_refused c.args.by.now.variables c.args.by.now.items c.args.member.now _ _ _ c.in_err-poly.field-0.0 c.poly.ensures
    c.poly-2.ensures c.requires.variables c.head-head.ensures.marked c.in_ok-rest.ensures.variables c.in_ok-rest.ensures.descending
    c.in_ok-rest.ensures.value c.in_err-poly.ensures.cause)

pub returns-in_err-rest-clause-cause : goal.returns-in_err-rest-clause-cause
returns-in_err-rest-clause-cause c =
    let p = err_from_is_err_and c.from_residual.result c.from_residual.ensures.1 in
    rw (p.1, p.2) (remainder_refused c.args.by.now.items c.args.member.now _ _ c.poly.ensures c.in_err-rest.ensures.cause)
