use Rattle.std.proofs.Common.{ℕ, ◌<◌, ◌≤◌, ◌^◌, pos, get_or, unsigned_abs}
use Rattle.gf_cone.proofs.narrow.is_short.Given as goal

abbrev pub invariant-loop-x : goal.invariant-loop-x
invariant-loop-x l = (k : ℕ) → k < l.x-index → unsigned_abs (get_or l.xs k (pos 0)) ≤ 2 ^ 26
