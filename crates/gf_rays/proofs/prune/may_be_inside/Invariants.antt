use Rattle.gf_rays.proofs.ColumnLaws.{LeftSoFar}
use Rattle.gf_rays.proofs.prune.may_be_inside.Given as goal

abbrev pub invariant-loop-k : goal.invariant-loop-k
invariant-loop-k l = LeftSoFar l.rays l.i l.left
