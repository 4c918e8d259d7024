use Rattle.std.specs.Prelude.{◌≡◌, ℕ, ◌<◌, get_or, pos}
use Rattle.gf_strands.proofs.along.pivot_of.Given as goal

abbrev pub invariant-entries : goal.invariant-entries
invariant-entries l = (j : ℕ) → j < l.i → get_or l.normal j (pos 0) ≡ pos 0
