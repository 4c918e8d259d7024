use Rattle.std.proofs.Common.{◌∙◌}
use Rattle.std.proofs.lemmas.Result.{err_from_is_err_and}
use Rattle.gf_reduced.proofs.WeightLaws.{rows_beside, answer_beside, step_beside}
use Rattle.gf_reduced.proofs.weights.weight_beside.Goals as goal

pub strict-requires-clause-rows : goal.strict-requires-clause-rows
strict-requires-clause-rows c =
    rows_beside c.args.marked.now.variables c.args.beside.now c.args.marked.now.items c.items.ensures.variables c.in_ok-all.ensures.marked c.variables.result
    c.deref.result.now c.variables.ensures c.requires (c.deref.ensures.value ∙ c.in_ok-all.ensures.rows)

pub returns-in_err-answer-clause-err : goal.returns-in_err-answer-clause-err
returns-in_err-answer-clause-err c =
    let p = err_from_is_err_and c.from_residual-in_err-answer.result c.from_residual-in_err-answer.ensures.1 in
    rw (p.1, p.2) (step_beside c.args.marked.now.variables c.variables.result c.args.beside.now c.args.marked.now.items c.deref.result.now
    c.in_err-answer.field-0.0 (c.deref.ensures.value ∙ c.in_ok-all.ensures.rows) c.variables.ensures c.in_err-answer.ensures.err)

pub returns-clause-ok : goal.returns-clause-ok
returns-clause-ok c =
    answer_beside c.args.marked.now.variables c.args.beside.now c.args.marked.now.items c.items.ensures.variables c.in_ok-all.ensures.marked c.variables.result
    c.deref.result.now c.in_ok-answer.answer c.gordans_alternative.ensures c.requires (c.deref.ensures.value ∙ c.in_ok-all.ensures.rows) c.variables.ensures
    c.in_ok-answer.ensures.ok
