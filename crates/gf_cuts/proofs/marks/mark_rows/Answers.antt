use Rattle.gf_cuts.proofs.MarkLaws.{mark_rows_more, marks_at, one_length}
use Rattle.gf_cuts.proofs.marks.mark_rows.Goals as goal

pub marks-requires : goal.marks-requires
marks-requires c = one_length c.args.rows.now c.args.top c.loop-k.k c.index-rows-top.result c.index-rows-k.result c.requires.index c.loop-k-test.true
    c.index-rows-top.is c.index-rows-k.is (c.requires.long c.loop-k.k c.loop-k-test.true)

pub loop-k-preserved : goal.loop-k-preserved
loop-k-preserved c = mark_rows_more c.args.rows.now c.args.top c.loop-k.k c.loop-k.out.items _ c.in_ok-marks.field-0 c.in_ok-push.ensures.items
    (marks_at c.args.rows.now c.args.top c.loop-k.k c.index-rows-top.result c.index-rows-k.result c.in_ok-marks.field-0 c.requires.index c.loop-k-test.true
    c.index-rows-top.is c.index-rows-k.is c.in_ok-marks.ensures) c.loop-k.invariant
