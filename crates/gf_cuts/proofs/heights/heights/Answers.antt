use Rattle.std.proofs.Common.{rules, FitsSigned}
use Rattle.std.specs.Int.{w128}
use Rattle.std.proofs.lemmas.Int.{to_z-of_z}
use Rattle.gf_cuts.proofs.LoopLaws.{heights_more}
use Rattle.gf_cuts.proofs.heights.heights.Goals as goal

pub loop-x-preserved : goal.loop-x-preserved
loop-x-preserved c =
    let fz : FitsSigned w128 c.in_ok-dot.field-0 = search rules in
    heights_more c.args.vectors.now c.args.point.now c.x-item.result c.loop-x.x-index c.loop-x.out.items _ c.in_ok-dot.field-0 c.loop-x-test.true c.x-item.is
    (simp to_z-of_z at c.in_ok-push.ensures.items) c.in_ok-dot.ensures.ok.0 c.in_ok-dot.ensures.range c.loop-x.invariant
