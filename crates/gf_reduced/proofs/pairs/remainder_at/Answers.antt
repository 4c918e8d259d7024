use Rattle.std.proofs.lemmas.Result.{err_from_is_err_and}
use Rattle.gf_reduced.proofs.PairLaws.{pair_at, pair_variables, remainder_of, s_refused, reduction_refused}
use Rattle.gf_reduced.proofs.pairs.remainder_at.Goals as goal

pub returns-in_err-f-clause-cause : goal.returns-in_err-f-clause-cause
returns-in_err-f-clause-cause c =
    let p = err_from_is_err_and c.from_residual.result c.from_residual.ensures.1 in
    let at = pair_at c.args.by.now c.args.i c.args.j c.index-by-i.result c.index-by-j.result c.requires.marked c.requires.variables c.requires.first
    c.requires.second c.index-by-i.is c.index-by-j.is in
    rw (p.1, p.2) (s_refused c.args.by.now c.args.i c.args.j c.index-by-i.result c.index-by-j.result c.in_err-f.field-0.0 at c.in_err-f.ensures.cause)

pub remainder-requires-clause-variables : goal.remainder-requires-clause-variables
remainder-requires-clause-variables c =
    let at = pair_at c.args.by.now c.args.i c.args.j c.index-by-i.result c.index-by-j.result c.requires.marked c.requires.variables c.requires.first
    c.requires.second c.index-by-i.is c.index-by-j.is in
    pair_variables c.args.by.now c.args.i c.args.j c.index-by-i.result c.index-by-j.result c.in_ok-f.f at c.in_ok-f.ensures.variables

pub returns-in_err-rest-clause-cause : goal.returns-in_err-rest-clause-cause
returns-in_err-rest-clause-cause c =
    let p = err_from_is_err_and c.from_residual-in_err-rest.result c.from_residual-in_err-rest.ensures.1 in
    let at = pair_at c.args.by.now c.args.i c.args.j c.index-by-i.result c.index-by-j.result c.requires.marked c.requires.variables c.requires.first
    c.requires.second c.index-by-i.is c.index-by-j.is in
    rw (p.1, p.2) (reduction_refused c.args.by.now c.args.i c.args.j c.index-by-i.result c.index-by-j.result c.in_ok-f.f c.in_err-rest.field-0.0 at
    c.in_ok-f.ensures.value c.in_err-rest.ensures.cause)

pub returns-clause-value : goal.returns-clause-value
returns-clause-value c =
    let at = pair_at c.args.by.now c.args.i c.args.j c.index-by-i.result c.index-by-j.result c.requires.marked c.requires.variables c.requires.first
    c.requires.second c.index-by-i.is c.index-by-j.is in
    remainder_of c.args.by.now c.args.i c.args.j c.index-by-i.result c.index-by-j.result c.in_ok-f.f c.in_ok-rest.rest at c.in_ok-f.ensures.value
    c.in_ok-f.ensures.variables c.in_ok-rest.ensures.normal_form c.in_ok-rest.ensures.descending c.in_ok-rest.ensures.variables
