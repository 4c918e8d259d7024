use Rattle.std.proofs.Common.{◌≡◌, arith}
use Rattle.gf_rays.proofs.ColumnLaws.{columns_none, columns_more, columns_all}
use Rattle.gf_rays.proofs.prune.columns.Goals as goal

pub loop-k-init : goal.loop-k-init
loop-k-init c = columns_none c.args.rays.now _ c.in_ok-out.ensures.items

pub column-requires : goal.column-requires
column-requires c = (c.args.m, (c.loop-k-test.true, c.requires))

pub loop-k-preserved : goal.loop-k-preserved
loop-k-preserved c =
    columns_more c.loop-k.k c.args.rays.now c.loop-k.out.items _ c.in_ok-column.field-0 c.in_ok-column.ensures c.in_ok-push.ensures.items c.loop-k.invariant

pub returns : goal.returns
returns c = columns_all c.loop-k.k c.args.m c.args.rays.now c.loop-k.out.items (omega (arith, c.loop-k-test.false, c.loop-k.auto.k-end)) c.loop-k.invariant
