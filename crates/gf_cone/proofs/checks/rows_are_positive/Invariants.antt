use Rattle.std.proofs.Common.{ℕ, ◌<◌, pos, get_or, [], ◌<ℤ◌}
use Rattle.gf_vec.specs.Vector.{dot}
use Rattle.gf_cone.proofs.checks.rows_are_positive.Given as goal

abbrev pub invariant-loop-k : goal.invariant-loop-k
invariant-loop-k l = (j : ℕ) → j < l.k → pos 0 <ℤ dot (get_or l.rows j []) l.w
