use Rattle.std.proofs.lemmas.Result.{err_from_is_err_and}
use Rattle.gfan_fans.proofs.ToldConeLaws.{rays_untold, fan_untold}
use Rattle.gfan_fans.proofs.told_cone.cone_fan.Goals as goal

pub returns-in-Err-clause-err : goal.returns-in-Err-clause-err
returns-in-Err-clause-err c = rays_untold c.args.n c.args.inequalities.now c.args.equations.now c.in-Err.error c.of_gordan.result c.in-Err.ensures.err
    c.of_gordan.ensures

pub returns-in_err-text-clause-err : goal.returns-in_err-text-clause-err
returns-in_err-text-clause-err c =
    let p = err_from_is_err_and c.from_residual-in_err-text.result c.from_residual-in_err-text.ensures.1 in
    rw (p.1, p.2) (fan_untold c.args.n c.args.inequalities.now c.args.equations.now c.in-Ok.cone c.in_ok-cones.cones.items c.in_err-text.field-0.0
    c.in-Ok.ensures.ok c.in_ok-cones.ensures c.in_err-text.ensures.err)
