use Rattle.gf_gordan.specs.Alternative.{AreRows}
use Rattle.gf_saturate.proofs.grades.unit_vectors.Given as goal

abbrev pub invariant-variables : goal.invariant-variables
invariant-variables l = AreRows l.n l.rows.items
