use Rattle.std.proofs.lemmas.Result.{err_from_is_err_and}
use Rattle.gf_fan_files.proofs.FilesFansLaws.{step_of_cones, zip_further}
use Rattle.gf_fan_files.proofs.fan.cones_of.Goals as goal

pub returns-in_err-cone-clause-err : goal.returns-in_err-cone-clause-err
returns-in_err-cone-clause-err c =
    let p = err_from_is_err_and c.from_residual.result c.from_residual.ensures.1 in
    rw (p.1, p.2) (step_of_cones c.args.file.now c.as_slice-lists.result.now c.lists.list-index c.list-item.result c.in_err-cone.field-0.0
    c.as_slice-lists.ensures c.lists-test.true c.list-item.is c.in_err-cone.ensures.err)

pub lists-preserved : goal.lists-preserved
lists-preserved c =
    zip_further c.args.file.now c.as_slice-lists.result.now c.lists.list-index c.list-item.result c.in_ok-cone.cone c.lists.cones.items c.push.new.self.items
    c.lists-test.true c.list-item.is c.in_ok-cone.ensures.ok c.in_ok-push.ensures.items c.lists.invariant
