use Rattle.std.proofs.Common.{ℕ, ◌<◌, ◌≢◌, pos, unsigned_abs, get_or}
use Rattle.gf_vec.proofs.content.has_unit.Given as goal

abbrev pub invariant-loop-x : goal.invariant-loop-x
invariant-loop-x l = (k : ℕ) → k < l.x-index → unsigned_abs (get_or l.xs k (pos 0)) ≢ 1
