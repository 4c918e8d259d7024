use Rattle.std.proofs.Common.{ℕ, ◌<◌, pos, get_or, ◌<ℤ◌}
use Rattle.gf_cone.proofs.checks.all_positive.Given as goal

abbrev pub invariant-loop-x : goal.invariant-loop-x
invariant-loop-x l = (k : ℕ) → k < l.x-index → pos 0 <ℤ get_or l.w k (pos 0)
