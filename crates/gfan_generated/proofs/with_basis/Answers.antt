use Rattle.std.proofs.Common.{sym, ◌∙◌}
use Rattle.std.proofs.lemmas.Result.{err_from_is_err_and}
use Rattle.gfan_generated.specs.Summaries.{IsUnsummed}
use Rattle.gfan_generated.proofs.SummaryLaws.{weight_long}
use Rattle.gfan_generated.proofs.with_basis.Goals as goal

pub returns-in_err-weight-clause-err : goal.returns-in_err-weight-clause-err
returns-in_err-weight-clause-err c =
    let p = err_from_is_err_and c.from_residual.result c.from_residual.ensures.1 in
    let e = c.in_err-weight.ensures.err in
    rw (p.1, p.2) (IsUnsummed.at_weight e.0 e.1 e.2)

pub with_weight-requires : goal.with_weight-requires
with_weight-requires c =
    c.requires.weights ∙ sym (weight_long c.args.basis.now.variables c.args.basis.now.items c.in_ok-weight.weight c.in_ok-weight.ensures.ok ∙
    c.requires.variables)

pub returns-in_err-weights-clause-err : goal.returns-in_err-weights-clause-err
returns-in_err-weights-clause-err c =
    let p = err_from_is_err_and c.from_residual-in_err-weights.result c.from_residual-in_err-weights.ensures.1 in
    rw (p.1, p.2) (IsUnsummed.at_sum c.in_ok-weight.weight c.in_ok-weight.ensures.ok c.in_err-weights.ensures.err)
