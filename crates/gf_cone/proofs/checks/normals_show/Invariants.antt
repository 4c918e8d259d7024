use Rattle.std.proofs.Common.{ℕ, ◌<◌}
use Rattle.gf_cone.specs.Crossing.{IsShownBy}
use Rattle.gf_cone.proofs.checks.normals_show.Given as goal

abbrev pub invariant-loop-k : goal.invariant-loop-k
invariant-loop-k l = (j : ℕ) → j < l.k → IsShownBy l.normals l.index l.w j
