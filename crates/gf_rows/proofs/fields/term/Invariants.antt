use Rattle.std.specs.Prelude.{◌≡◌, length}
use Rattle.gf_rows.proofs.fields.term.Given as goal

abbrev pub invariant-loop-factor : goal.invariant-loop-factor
invariant-loop-factor l = length l.mono ≡ l.n
