use Rattle.std.proofs.Common.{take}
use Rattle.gf_cuts.specs.Heights.{AreRowsOver}
use Rattle.gf_cuts.proofs.above.rows_over.Given as goal

abbrev pub invariant-loop-x : goal.invariant-loop-x
invariant-loop-x l = AreRowsOver l.points l.top (take l.x-index l.indices) l.out.items
