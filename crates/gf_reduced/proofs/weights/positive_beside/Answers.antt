use Rattle.std.proofs.Common.{refl}
use Rattle.std.proofs.lemmas.Result.{err_from_is_err_and}
use Rattle.gf_reduced.proofs.WeightLaws.{step_refused_beside, found_beside, refused_beside}
use Rattle.gf_reduced.proofs.weights.positive_beside.Goals as goal

pub returns-in_err-answer-clause-err : goal.returns-in_err-answer-clause-err
returns-in_err-answer-clause-err c =
    let p = err_from_is_err_and c.from_residual.result c.from_residual.ensures.1 in
    rw (p.1, p.2) (step_refused_beside c.args.beside.now c.args.set c.args.marked.now c.in_err-answer.field-0.0 c.in_err-answer.ensures.err)

pub returns-in-Point-clause-ok : goal.returns-in-Point-clause-ok
returns-in-Point-clause-ok c = found_beside c.args.marked.now.variables c.args.beside.now c.args.marked.now.items _ _ c.in-Point.is c.in_ok-answer.ensures.ok

pub returns-in-Farkas-clause-err : goal.returns-in-Farkas-clause-err
returns-in-Farkas-clause-err c =
    (refl, refused_beside c.args.marked.now.variables c.args.beside.now c.args.marked.now.items _ _ _ c.in-Farkas.is c.in_ok-answer.ensures.ok)
