use Rattle.std.proofs.Common.{ℕ, ◌<◌, ◌^◌, ◌<ℤ◌, get_or, pos}
use Rattle.gf_weights.proofs.region.first_past.Given as goal

abbrev pub invariant-entries : goal.invariant-entries
invariant-entries l = (j : ℕ) → j < l.i → get_or l.xs j (pos 0) <ℤ pos (2 ^ 63)
