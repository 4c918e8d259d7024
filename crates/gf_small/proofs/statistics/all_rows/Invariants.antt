use Rattle.gf_small.proofs.HomogeneitySpaceLaws.{RowsSoFar}
use Rattle.gf_small.proofs.statistics.all_rows.Given as goal

abbrev pub invariant-sets : goal.invariant-sets
invariant-sets l = RowsSoFar l.n l.sets l.rows.items l.i
