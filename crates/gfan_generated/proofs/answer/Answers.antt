use Rattle.std.proofs.Common.{ap, inr}
use Rattle.std.proofs.lemmas.Result.{err_from_is_err_and}
use Rattle.gf_generated.specs.Generated.{generated_set}
use Rattle.gfan_generated.proofs.SummaryLaws.{summary_answers, summary_refuses, root_refuses, generated_begins, generated_start}
use Rattle.gfan_generated.proofs.answer.Goals as goal

pub returns-in_err-root-clause-err : goal.returns-in_err-root-clause-err
returns-in_err-root-clause-err g c =
    let o = c.args.given.now in
    let p = err_from_is_err_and c.from_residual.result c.from_residual.ensures.1 in
    rw (p.1, p.2) (root_refuses o.number o.limit o.pairs c.in_err-root.field-0.0.refusal c.in_err-root.ensures.err)

pub summed_up-requires-clause-first : goal.summed_up-requires-clause-first
summed_up-requires-clause-first g c κs within = generated_start c.args.given.now.number c.in_ok-root.root c.in_ok-root.ensures.ok

pub returns-in_err-summary-clause-err : goal.returns-in_err-summary-clause-err
returns-in_err-summary-clause-err g c =
    let o = c.args.given.now in
    let p = err_from_is_err_and c.from_residual-in_err-summary.result c.from_residual-in_err-summary.ensures.1 in
    rw (p.1, p.2) (summary_refuses o.number o.limit o.pairs c.in_err-summary.field-0.0.refusal (c.in_err-summary.ensures.err (generated_set o.number)
    (generated_begins o.number c.in_ok-root.root c.in_ok-root.ensures.ok)))

pub returns-in_err-text-clause-err : goal.returns-in_err-text-clause-err
returns-in_err-text-clause-err g c =
    let o = c.args.given.now in
    let p = err_from_is_err_and c.from_residual-in_err-text.result c.from_residual-in_err-text.ensures.1 in
    rw p.1 (summary_refuses o.number o.limit o.pairs p.0.refusal (inr (ap (λ r. r.refusal) p.2)))

pub returns-clause-ok : goal.returns-clause-ok
returns-clause-ok g c =
    let o = c.args.given.now in
    summary_answers o.number o.limit o.pairs c.in_ok-summary.summary c.in_ok-text.text.items (c.in_ok-summary.ensures.ok (generated_set o.number)
    (generated_begins o.number c.in_ok-root.root c.in_ok-root.ensures.ok)) c.in_ok-text.ensures
