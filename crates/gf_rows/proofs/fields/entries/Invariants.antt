use Rattle.std.proofs.Common.{All}
use Rattle.gf_int_theory.specs.Range.{InRange}
use Rattle.gf_rows.proofs.fields.entries.Given as goal

abbrev pub invariant-loop-word : goal.invariant-loop-word
invariant-loop-word l = All InRange l.entries.items
