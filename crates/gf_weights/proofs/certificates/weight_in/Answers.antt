use Rattle.std.proofs.lemmas.Result.{err_from_is_err_and}
use Rattle.gf_weights.proofs.CutLaws.{weight_is}
use Rattle.gf_weights.proofs.RefusalLaws.{weight_refused}
use Rattle.gf_weights.proofs.certificates.weight_in.Goals as goal

pub returns-in_err-cut-clause-err : goal.returns-in_err-cut-clause-err
returns-in_err-cut-clause-err c =
    let p = err_from_is_err_and c.from_residual.result c.from_residual.ensures.1 in
    rw (p.1, p.2) c.in_err-cut.ensures.err

pub returns-in_err-weight-clause-err : goal.returns-in_err-weight-clause-err
returns-in_err-weight-clause-err c =
    let p = err_from_is_err_and c.from_residual-in_err-weight.result c.from_residual-in_err-weight.ensures.1 in
    rw (p.1, p.2) (weight_refused c.args.set.now.variables c.args.region.now c.args.set.now.items c.in_ok-cut.cut.cone c.in_ok-cut.cut.rays _
    c.in_ok-cut.ensures.ok c.in_err-weight.ensures.wide)

pub returns-clause-value : goal.returns-clause-value
returns-clause-value c = weight_is c.args.set.now.variables c.args.region.now c.args.set.now.items c.in_ok-cut.cut.cone c.in_ok-cut.cut.rays
    c.in_ok-weight.weight c.in_ok-cut.ensures.ok c.in_ok-weight.ensures.value
