use Rattle.std.proofs.Common.{ℕ, ◌<◌, ◌≤ℤ◌, get_or, pos}
use Rattle.gf_cuts.proofs.thinning.is_below.Given as goal

abbrev pub invariant-loop-k : goal.invariant-loop-k
invariant-loop-k l = (j : ℕ) → j < l.k → get_or l.left j (pos 0) ≤ℤ get_or l.right j (pos 0)
