use Rattle.std.proofs.lemmas.Result.{err_from_is_err_and}
use Rattle.gf_fan_files.proofs.FilesFansLaws.{rays_along, cone_generated, dual_step, cone_step}
use Rattle.gf_fan_files.proofs.fan.generated_cone.Goals as goal

pub returns-in_err-dual-clause-err : goal.returns-in_err-dual-clause-err
returns-in_err-dual-clause-err c =
    let p = err_from_is_err_and c.from_residual.result c.from_residual.ensures.1 in
    rw (p.1, p.2) (dual_step c.args.n c.args.rays.now c.args.lineality.now c.in_err-dual.field-0.0 c.in_err-dual.ensures.err)

pub returns-in_err-cone-clause-err : goal.returns-in_err-cone-clause-err
returns-in_err-cone-clause-err c =
    let p = err_from_is_err_and c.from_residual-in_err-cone.result c.from_residual-in_err-cone.ensures.1 in
    let dual = rays_along c.args.n c.args.rays.now c.args.lineality.now c.in_ok-dual.dual c.lineality.result.now c.rays.result.now c.in_ok-dual.ensures.rays
    c.lineality.ensures.value c.rays.ensures.value in
    rw (p.1, p.2) (cone_step c.args.n c.args.rays.now c.args.lineality.now c.lineality.result.now c.rays.result.now c.in_err-cone.field-0.0 dual
    c.in_err-cone.ensures.err)

pub returns-clause-ok : goal.returns-clause-ok
returns-clause-ok c =
    let dual = rays_along c.args.n c.args.rays.now c.args.lineality.now c.in_ok-dual.dual c.lineality.result.now c.rays.result.now c.in_ok-dual.ensures.rays
    c.lineality.ensures.value c.rays.ensures.value in
    cone_generated c.args.n c.args.rays.now c.args.lineality.now c.lineality.result.now c.rays.result.now c.in_ok-cone.cone c.duals_of_duals.ensures
    c.requires.rays c.requires.lineality dual
    c.in_ok-cone.ensures.rows.0 c.in_ok-cone.ensures.rows.1 c.in_ok-cone.ensures.rows.2 c.in_ok-cone.ensures.rays
