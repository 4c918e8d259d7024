use Rattle.std.proofs.Common.{◌≡◌, ◌∙◌, ◌<◌, sym, ap, length, arith}
use Rattle.gf_rays.specs.declared.ray.Ray.{Ray}
use Rattle.gf_rays.proofs.ColumnLaws.{column_none, column_more, column_all}
use Rattle.gf_rays.proofs.prune.column.Goals as goal

pub loop-ray-init : goal.loop-ray-init
loop-ray-init c = column_none c.args.k c.args.rays.now _ c.in_ok-column.ensures

pub has-requires : goal.has-requires
has-requires c =
    let l : length c.ray-item.result.zero ≡ c.requires.0 =
    ap (λ (r : Ray). length r.zero) c.ray-item.is ∙ c.requires.1.1 c.loop-ray.ray-index c.ray-item.result c.loop-ray-test.true in
    omega (arith, l, c.requires.1.0)

pub loop-ray-preserved : goal.loop-ray-preserved
loop-ray-preserved c =
    column_more c.args.k c.args.rays.now c.loop-ray.ray-index c.ray-item.result c.has.result c.loop-ray.column _ c.loop-ray-test.true c.ray-item.is
    c.has.ensures c.in_ok-column-2.ensures c.loop-ray.invariant

pub returns : goal.returns
returns c = column_all c.args.k c.args.rays.now c.loop-ray.ray-index c.loop-ray.column (omega (arith, c.loop-ray-test.false)) c.loop-ray.invariant
