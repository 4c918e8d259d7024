use Rattle.std.proofs.Common.{sym, subst}
use Rattle.std.proofs.lemmas.Result.{err_from_is_err_and}
use Rattle.gf_division.specs.NormalForms.{HasSomeWeight}
use Rattle.gf_buchberger.specs.Runs.{state_of}
use Rattle.gf_buchberger.proofs.GeneratorsOfRuns.{entry_variables, left_comparable, entry_reduction, if_entry_left, if_entry_monic}
use Rattle.gf_buchberger.proofs.generators.narrow_left.Goals as goal

pub remainder-requires-clause-marked : goal.remainder-requires-clause-marked
remainder-requires-clause-marked c = subst HasSomeWeight (sym c.marked.ensures) c.requires.marked

pub remainder-requires-clause-variables : goal.remainder-requires-clause-variables
remainder-requires-clause-variables c = entry_variables c.args.order.now c.args.run.now.members.items c.marked.result.now c.args.f.now c.in_ok-copy.field-0
    c.marked.ensures c.in_ok-copy.ensures c.requires.variables

pub returns-in_err-r-clause-cause : goal.returns-in_err-r-clause-cause
returns-in_err-r-clause-cause c =
    let p = err_from_is_err_and c.from_residual-in_err-r.result c.from_residual-in_err-r.ensures.1 in
    rw (p.1, p.2) (entry_reduction c.args.order.now (state_of c.args.run.now) c.marked.result.now c.args.f.now c.in_ok-copy.field-0 _ c.marked.ensures
    c.in_ok-copy.ensures c.in_err-r.ensures.cause)

pub left_of-requires : goal.left_of-requires
left_of-requires c = left_comparable c.args.order.now c.args.run.now.members.items c.args.f.now c.in_ok-copy.field-0 c.in_ok-r.r c.in_ok-copy.ensures
    c.requires.variables c.in_ok-r.ensures.variables

pub returns-clause-ok : goal.returns-clause-ok
returns-clause-ok c =
    if_entry_left c.args.order.now
    (state_of c.args.run.now) c.marked.result.now c.args.f.now c.in_ok-copy.field-0 c.in_ok-r.r c.left_of.result c.marked.ensures c.in_ok-copy.ensures
    c.in_ok-r.ensures.value c.in_ok-r.ensures.normal_form c.in_ok-r.ensures.variables c.left_of.ensures.ok

pub returns-clause-cause : goal.returns-clause-cause
returns-clause-cause c =
    if_entry_monic c.args.order.now
    (state_of c.args.run.now) c.marked.result.now c.args.f.now c.in_ok-copy.field-0 c.in_ok-r.r c.left_of.result c.marked.ensures c.in_ok-copy.ensures
    c.in_ok-r.ensures.value c.in_ok-r.ensures.normal_form c.left_of.ensures.cause
