use Rattle.gf_gordan.specs.Alternative.{AreRows}
use Rattle.gf_rows.proofs.fields.rows.Given as goal

abbrev pub invariant-loop-word : goal.invariant-loop-word
invariant-loop-word l = AreRows l.n l.rows.items
