use Rattle.std.proofs.Common.{ℕ, [], ◌+◌, ◌<◌, ◌≤◌, get_or}
use Rattle.gf_rays.specs.Flags.{IsBelow}
use Rattle.gf_rays.proofs.faces.last_below.Given as goal

abbrev pub invariant-loop-k : goal.invariant-loop-k
invariant-loop-k l = (m : ℕ) → l.i ≤ m + l.k → m < l.i → IsBelow (get_or l.members m []) (get_or l.members l.i []) → ⊥
