use Rattle.std.proofs.Common.{◌∙◌}
use Rattle.std.proofs.lemmas.Result.{err_from_is_err_and}
use Rattle.gf_weights.proofs.RootLaws.{sum_is, rays_refused, sum_refused}
use Rattle.gf_weights.proofs.region.sum_of_rays.Goals as goal

pub returns-in_err-rays-clause-err : goal.returns-in_err-rays-clause-err
returns-in_err-rays-clause-err c =
    let p = err_from_is_err_and c.from_residual.result c.from_residual.ensures.1 in
    rw (p.1, p.2) (rays_refused c.args.n c.args.all.now c.as_slice.result.now _ (c.as_slice.ensures.value ∙ c.new-none.ensures.items) c.in_err-rays.ensures.err)

pub returns-in_err-sum-clause-err : goal.returns-in_err-sum-clause-err
returns-in_err-sum-clause-err c =
    let p = err_from_is_err_and c.from_residual-in_err-sum.result c.from_residual-in_err-sum.ensures.1 in
    rw (p.1, p.2) (sum_refused c.args.n c.args.all.now c.as_slice.result.now c.in_ok-rays.rays _ c.requires.closed
    (c.as_slice.ensures.value ∙ c.new-none.ensures.items) c.in_ok-rays.ensures.rows.0 c.in_ok-rays.ensures.rays c.in_err-sum.ensures.wide)

pub returns-clause-value : goal.returns-clause-value
returns-clause-value c = sum_is c.args.n c.args.all.now c.as_slice.result.now c.in_ok-rays.rays c.in_ok-sum.sum c.requires.closed
    (c.as_slice.ensures.value ∙ c.new-none.ensures.items) c.in_ok-rays.ensures.rows.0 c.in_ok-rays.ensures.rays c.in_ok-sum.ensures.value
