use Rattle.gf_cuts.proofs.MarkLaws.{MarksSoFar}
use Rattle.gf_cuts.proofs.marks.marks.Given as goal

abbrev pub invariant-loop-k : goal.invariant-loop-k
invariant-loop-k l = MarksSoFar l.left l.right l.k l.out.items
