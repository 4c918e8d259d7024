use Rattle.std.proofs.Common.{ℕ, ◌<◌, pos, get_or, ◌≡◌, ◌+ℤ◌}
use Rattle.gf_cone.proofs.checks.is_sum.Given as goal

abbrev pub invariant-loop-i : goal.invariant-loop-i
invariant-loop-i l = (k : ℕ) → k < l.i → get_or l.a k (pos 0) ≡ get_or l.b k (pos 0) +ℤ get_or l.c k (pos 0)
