use Rattle.gf_vec.specs.Vector.{opposite}
use Rattle.gf_cuts.proofs.LoopLaws.{behind_more}
use Rattle.gf_cuts.proofs.generators.with_opposites.Goals as goal

pub loop-line-preserved : goal.loop-line-preserved
loop-line-preserved c = behind_more opposite c.args.lines.now c.loop-line.line-index c.line-item.result c.in_ok-opposite.field-0 c.args.vectors.items
    c.loop-line.out.items _ c.loop-line-test.true c.line-item.is c.in_ok-opposite.ensures c.in_ok-push.ensures.items c.loop-line.invariant
