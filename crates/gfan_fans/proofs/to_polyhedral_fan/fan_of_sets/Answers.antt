use Rattle.std.proofs.lemmas.Result.{err_from_is_err_and}
use Rattle.gfan_fans.proofs.ToPolyhedralFanLaws.{cones_ambient, fan_no_fan, fan_told}
use Rattle.gfan_fans.proofs.to_polyhedral_fan.fan_of_sets.Goals as goal

pub returns-in_err-cones-clause-err : goal.returns-in_err-cones-clause-err
returns-in_err-cones-clause-err c =
    let p = err_from_is_err_and c.from_residual.result c.from_residual.ensures.1 in
    rw (p.1, p.2) (c.in_err-cones.ensures.err c.args.n)

pub fan_text-requires-clause-cones : goal.fan_text-requires-clause-cones
fan_text-requires-clause-cones c = cones_ambient c.args.cut c.args.n c.args.sets.items c.in_ok-cones.cones.items c.in_ok-cones.ensures.cones
    c.requires.variables

pub returns-clause-ok : goal.returns-clause-ok
returns-clause-ok c = fan_told c.args.cut c.args.n c.args.sets.items c.in_ok-cones.cones.items c.in_ok-text.text.items c.in_ok-cones.ensures.reduced
    c.in_ok-cones.ensures.cones c.in_ok-text.ensures.ok

pub returns-in_err-text-clause-err : goal.returns-in_err-text-clause-err
returns-in_err-text-clause-err c =
    let p = err_from_is_err_and c.from_residual-in_err-text.result c.from_residual-in_err-text.ensures.1 in
    rw (p.1, p.2) (fan_no_fan c.args.cut c.args.n c.args.sets.items c.in_ok-cones.cones.items c.in_err-text.field-0.0 c.in_ok-cones.ensures.reduced
    c.in_ok-cones.ensures.cones c.in_err-text.ensures.err)
