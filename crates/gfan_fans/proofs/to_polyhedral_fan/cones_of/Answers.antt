use Rattle.std.proofs.lemmas.Result.{err_from_is_err_and}
use Rattle.gfan_fans.specs.ToPolyhedralFan.{IsConeOfSet}
use Rattle.gfan_common.proofs.ZipLaws.{zip_more}
use Rattle.gfan_fans.proofs.ToPolyhedralFanLaws.{step_of_sets}
use Rattle.gfan_fans.proofs.to_polyhedral_fan.cones_of.Goals as goal

pub returns-in_err-cone-clause-err : goal.returns-in_err-cone-clause-err
returns-in_err-cone-clause-err c =
    let p = err_from_is_err_and c.from_residual.result c.from_residual.ensures.1 in
    rw (p.1, p.2) (step_of_sets c.args.cut c.args.sets.now c.sets.set-index c.set-item.result c.in_err-cone.field-0.0 c.sets-test.true c.set-item.is
    c.in_err-cone.ensures.err)

pub sets-preserved : goal.sets-preserved
sets-preserved c =
    zip_more (IsConeOfSet c.args.cut) c.args.sets.now c.sets.cones.items c.push.new.self.items c.sets.set-index c.set-item.result c.in_ok-cone.cone
    c.sets-test.true c.set-item.is c.in_ok-cone.ensures.ok c.in_ok-push.ensures.items c.sets.invariant
