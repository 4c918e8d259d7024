use Rattle.gf_cuts.proofs.MarkLaws.{MarkRowsSoFar}
use Rattle.gf_cuts.proofs.marks.mark_rows.Given as goal

abbrev pub invariant-loop-k : goal.invariant-loop-k
invariant-loop-k l = MarkRowsSoFar l.rows l.top l.k l.out.items
