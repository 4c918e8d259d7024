use Rattle.std.proofs.Common.{inl, inr}
use Rattle.std.proofs.lemmas.Result.{err_from_is_err_and}
use Rattle.gfan_common.proofs.PerformedLaws.{on_err}
use Rattle.gfan_lists.proofs.within.region_by.Goals as goal

pub returns-in_err-check_each-clause-err : goal.returns-in_err-check_each-clause-err
returns-in_err-check_each-clause-err c =
    let p = err_from_is_err_and c.from_residual.result c.from_residual.ensures.1 in
    rw (p.1, p.2) (inl c.in_err-check_each.ensures.err)

pub returns-clause-err : goal.returns-clause-err
returns-clause-err c = on_err c.region_for.result _ _ (λ e h. inr h) c.region_for.ensures.err
