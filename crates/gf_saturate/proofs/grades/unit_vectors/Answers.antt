use Rattle.gf_saturate.proofs.GradedLaws.{rows_more}
use Rattle.gf_saturate.proofs.grades.unit_vectors.Goals as goal

pub variables-preserved : goal.variables-preserved
variables-preserved c = rows_more c.args.n _ _ c.in_ok-row.row c.in_ok-push.ensures.items c.in_ok-row.ensures c.variables.invariant
