use Rattle.gf_rays.proofs.ColumnLaws.{ColumnSoFar}
use Rattle.gf_rays.proofs.prune.column.Given as goal

abbrev pub invariant-loop-ray : goal.invariant-loop-ray
invariant-loop-ray l = ColumnSoFar l.k l.rays l.ray-index l.column
