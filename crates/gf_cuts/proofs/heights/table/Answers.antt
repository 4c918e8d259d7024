use Rattle.gf_cuts.specs.Heights.{heights}
use Rattle.gf_cuts.proofs.HeightLaws.{same_map}
use Rattle.gf_cuts.proofs.LoopLaws.{mapped_more}
use Rattle.gf_cuts.proofs.heights.table.Goals as goal

pub loop-point-preserved : goal.loop-point-preserved
loop-point-preserved c = mapped_more (heights c.in_ok-vectors.vectors.items) c.args.points.now c.loop-point.point-index c.point-item.result
    c.in_ok-heights.field-0 c.loop-point.out.items _ c.loop-point-test.true c.point-item.is
    (same_map c.deref.result.now c.in_ok-vectors.vectors.items c.point-item.result c.in_ok-heights.field-0 c.deref.ensures.value c.in_ok-heights.ensures)
    c.in_ok-push.ensures.items c.loop-point.invariant
