use Rattle.gf_gordan.specs.Alternative.{AreRows}
use Rattle.gf_fan.proofs.bits.distinct_rows.Given as goal

abbrev pub invariant-loop-c : goal.invariant-loop-c
invariant-loop-c l = AreRows l.n l.items.keys
