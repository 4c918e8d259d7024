use Rattle.std.proofs.Common.{◌∙◌}
use Rattle.std.proofs.lemmas.Result.{err_from_is_err_and}
use Rattle.gf_weights.proofs.RefusalLaws.{cut_refused}
use Rattle.gf_weights.proofs.cut.cut_cone.Goals as goal

pub returns-in_err-rays-clause-err : goal.returns-in_err-rays-clause-err
returns-in_err-rays-clause-err c =
    let p = err_from_is_err_and c.from_residual-in_err-rays.result c.from_residual-in_err-rays.ensures.1 in
    rw (p.1, p.2) (cut_refused c.args.set.now.variables c.variables.result c.args.region.now c.args.set.now.items c.in_ok-cone.cone c.as_slice.result.now
    c.as_slice-2.result.now _ c.in_ok-cone.ensures c.variables.ensures
    (c.as_slice.ensures.value ∙ c.in_ok-vectors.ensures.value) (c.as_slice-2.ensures.value ∙ c.new-none.ensures.items) c.in_err-rays.ensures.err)
