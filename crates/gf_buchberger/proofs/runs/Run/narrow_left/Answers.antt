use Rattle.std.proofs.Common.{sym, subst}
use Rattle.std.proofs.lemmas.Result.{err_from_is_err_and}
use Rattle.gf_division.specs.NormalForms.{HasSomeWeight}
use Rattle.gf_buchberger.specs.Runs.{state_of}
use Rattle.gf_buchberger.proofs.ReducedPairLaws.{are_read, pair_variables, s_polynomial_is, s_polynomial_variables, same_variables, s_polynomial_refused}
use Rattle.gf_buchberger.proofs.ReducedPairLaws.{reduction_refused, if_left_refused, comparable, if_left}
use Rattle.gf_buchberger.proofs.runs.Run.narrow_left.Goals as goal

pub s_poly-requires : goal.s_poly-requires
s_poly-requires c = record {
  variables = pair_variables c.requires.reducers.n c.args.self.now.members.items c.args.i c.args.j c.at.result.now c.at-2.result.now
      c.requires.reducers.each (are_read _ _ _ _ _ c.requires.first c.requires.second c.at.ensures c.at-2.ensures);
}

pub returns-in_err-s-clause-cause : goal.returns-in_err-s-clause-cause
returns-in_err-s-clause-cause c =
    let p = err_from_is_err_and c.from_residual.result c.from_residual.ensures.1 in
    rw (p.1, p.2) (s_polynomial_refused c.args.order.now (state_of c.args.self.now) c.args.i c.args.j c.at.result.now c.at-2.result.now _
    c.requires.reducers.weight (are_read _ _ _ _ _ c.requires.first c.requires.second c.at.ensures c.at-2.ensures) c.in_err-s.ensures.cause)

pub remainder-requires-clause-marked : goal.remainder-requires-clause-marked
remainder-requires-clause-marked c = subst HasSomeWeight (sym c.marked.ensures) c.requires.reducers.weight

pub remainder-requires-clause-variables : goal.remainder-requires-clause-variables
remainder-requires-clause-variables c = same_variables c.requires.reducers.n c.args.self.now.members.items c.marked.result.now c.in_ok-s.s c.marked.ensures
    c.requires.reducers.each (s_polynomial_variables c.requires.reducers.n c.args.self.now.members.items c.args.i c.args.j c.at.result.now
    c.at-2.result.now c.in_ok-s.s c.requires.reducers.each (are_read _ _ _ _ _ c.requires.first c.requires.second c.at.ensures c.at-2.ensures)
    c.in_ok-s.ensures.variables)

pub returns-in_err-r-clause-cause : goal.returns-in_err-r-clause-cause
returns-in_err-r-clause-cause c =
    let p = err_from_is_err_and c.from_residual-in_err-r.result c.from_residual-in_err-r.ensures.1 in
    rw (p.1, p.2) (reduction_refused c.args.order.now (state_of c.args.self.now) c.marked.result.now c.args.i c.args.j c.at.result.now c.at-2.result.now
    c.in_ok-s.s _ c.marked.ensures (are_read _ _ _ _ _ c.requires.first c.requires.second c.at.ensures c.at-2.ensures)
    (s_polynomial_is c.args.self.now.members.items c.args.i c.args.j c.at.result.now c.at-2.result.now c.in_ok-s.s c.requires.reducers.weight
    (are_read _ _ _ _ _ c.requires.first c.requires.second c.at.ensures c.at-2.ensures) c.in_ok-s.ensures.value) c.in_err-r.ensures.cause)

pub left_of-requires : goal.left_of-requires
left_of-requires c = comparable c.args.order.now c.requires.reducers.n c.in_ok-s.s c.in_ok-r.r
    (s_polynomial_variables c.requires.reducers.n c.args.self.now.members.items c.args.i c.args.j c.at.result.now c.at-2.result.now c.in_ok-s.s
    c.requires.reducers.each (are_read _ _ _ _ _ c.requires.first c.requires.second c.at.ensures c.at-2.ensures) c.in_ok-s.ensures.variables)
    c.in_ok-r.ensures.variables c.requires.reducers.entries

pub returns-clause-cause : goal.returns-clause-cause
returns-clause-cause c =
    if_left_refused c.args.order.now
    (state_of c.args.self.now) c.marked.result.now c.args.i c.args.j c.at.result.now c.at-2.result.now c.in_ok-s.s c.in_ok-r.r c.left_of.result
    c.marked.ensures
    (are_read _ _ _ _ _ c.requires.first c.requires.second c.at.ensures c.at-2.ensures)
    (s_polynomial_is c.args.self.now.members.items c.args.i c.args.j c.at.result.now c.at-2.result.now c.in_ok-s.s c.requires.reducers.weight
    (are_read _ _ _ _ _ c.requires.first c.requires.second c.at.ensures c.at-2.ensures) c.in_ok-s.ensures.value)
    c.in_ok-r.ensures.value c.in_ok-r.ensures.normal_form c.left_of.ensures.cause

pub returns-clause-ok : goal.returns-clause-ok
returns-clause-ok c =
    if_left c.args.order.now
    (state_of c.args.self.now) c.marked.result.now c.args.i c.args.j c.at.result.now c.at-2.result.now c.in_ok-s.s c.in_ok-r.r c.left_of.result
    c.marked.ensures
    (are_read _ _ _ _ _ c.requires.first c.requires.second c.at.ensures c.at-2.ensures)
    (s_polynomial_is c.args.self.now.members.items c.args.i c.args.j c.at.result.now c.at-2.result.now c.in_ok-s.s c.requires.reducers.weight
    (are_read _ _ _ _ _ c.requires.first c.requires.second c.at.ensures c.at-2.ensures) c.in_ok-s.ensures.value)
    c.in_ok-s.ensures.variables c.in_ok-r.ensures.value c.in_ok-r.ensures.normal_form c.in_ok-r.ensures.variables c.left_of.ensures.ok
