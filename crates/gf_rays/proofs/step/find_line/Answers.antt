use Rattle.std.proofs.lemmas.Result.{err_from_is_err_and}
use Rattle.gf_rays.proofs.StepLaws.{line_test}
use Rattle.gf_rays.proofs.step.find_line.Goals as goal

pub returns-in_err-dot_at-clause-err : goal.returns-in_err-dot_at-clause-err
returns-in_err-dot_at-clause-err c =
    let p = err_from_is_err_and c.from_residual.result c.from_residual.ensures.1 in
    rw (p.1, p.2) (line_test c.args.row c.loop-i.i c.args.h.now c.index-lineality-i.result c.args.lineality.now _ c.loop-i-test.true c.loop-i.invariant
    c.index-lineality-i.is c.in_err-dot_at.ensures.err)
