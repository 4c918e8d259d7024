use Rattle.std.proofs.Common.{ℕ, ◌<◌, pos, get_or, ◌≤ℤ◌}
use Rattle.gf_cone.proofs.checks.none_negative.Given as goal

abbrev pub invariant-loop-x : goal.invariant-loop-x
invariant-loop-x l = (k : ℕ) → k < l.x-index → pos 0 ≤ℤ get_or l.a k (pos 0)
