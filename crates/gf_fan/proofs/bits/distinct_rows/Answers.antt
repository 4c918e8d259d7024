use Rattle.gf_fan.proofs.BitLaws.{width_more}
use Rattle.gf_fan.proofs.bits.distinct_rows.Goals as goal

pub loop-c-preserved : goal.loop-c-preserved
loop-c-preserved c = width_more c.args.n c.args.cones.now c.loop-c.c-index c.c-item.result c.inequalities.result.now c.loop-c.items.keys _ c.requires
    c.loop-c-test.true c.c-item.is c.inequalities.ensures.width c.in_ok-insert_all.ensures c.loop-c.invariant
