use Rattle.std.proofs.Common.{arith, inl, inr}
use Rattle.std.proofs.lemmas.Bool.{cases_lt}
use Rattle.gf_strands.proofs.MultipleLaws.{past}
use Rattle.gf_strands.proofs.along.pivot_of.Goals as goal

pub unreachable-requires : goal.unreachable-requires
unreachable-requires c = elim (cases_lt c.requires.0 c.entries.i) [
  | inl l ↦ c.requires.1 (c.entries.invariant c.requires.0 l)
  | inr g ↦ c.requires.1 (past c.args.normal.now c.requires.0 (omega (arith, g, c.entries-test.false)))
]
