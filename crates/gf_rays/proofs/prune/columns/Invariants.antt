use Rattle.gf_rays.proofs.ColumnLaws.{ColumnsSoFar}
use Rattle.gf_rays.proofs.prune.columns.Given as goal

abbrev pub invariant-loop-k : goal.invariant-loop-k
invariant-loop-k l = ColumnsSoFar l.k l.rays l.out.items
