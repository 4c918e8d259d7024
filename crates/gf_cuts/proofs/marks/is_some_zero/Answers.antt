use Rattle.std.proofs.Common.{get_or}
use Rattle.gf_cuts.proofs.BelowLaws.{index_in}
use Rattle.gf_cuts.proofs.MarkLaws.{zero_at}
use Rattle.gf_cuts.proofs.marks.is_some_zero.Goals as goal

pub returns-then-is_zero : goal.returns-then-is_zero
returns-then-is_zero c = λ t. (
  get_or c.args.indices.now c.loop-y.y-index 0,
  (
    index_in c.args.indices.now c.loop-y.y-index c.loop-y-test.true,
    zero_at c.args.marks.now (get_or c.args.indices.now c.loop-y.y-index 0) c.index-marks-y.result (c.requires c.loop-y.y-index 0 c.loop-y-test.true)
        c.index-marks-y.is (c.is_zero.ensures c.if-is_zero.true),
  ),
)
