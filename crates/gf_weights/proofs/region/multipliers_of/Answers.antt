use Rattle.std.proofs.lemmas.Result.{err_from_is_err_and}
use Rattle.gf_weights.proofs.RootLaws.{system_refused, solved_by, refuted_by}
use Rattle.gf_weights.proofs.region.multipliers_of.Goals as goal

pub returns-in_err-answer-clause-err : goal.returns-in_err-answer-clause-err
returns-in_err-answer-clause-err c =
    let p = err_from_is_err_and c.from_residual.result c.from_residual.ensures.1 in
    rw (p.1, p.2) (system_refused c.args.n c.args.all.now c.in_err-answer.field-0.0 c.in_err-answer.ensures.err)

pub returns-in-Point-clause-none : goal.returns-in-Point-clause-none
returns-in-Point-clause-none c = λ t. solved_by c.args.n c.args.all.now c.in_ok-answer.answer _ c.in-Point.is c.in_ok-answer.ensures.ok

pub returns-clause-some : goal.returns-clause-some
returns-clause-some c = refuted_by c.args.n c.args.all.now c.in_ok-answer.answer _ _ c.in-Farkas.is c.in_ok-answer.ensures.ok
