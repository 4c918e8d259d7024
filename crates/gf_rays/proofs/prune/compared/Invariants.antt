use Rattle.std.proofs.Common.{ℕ, ◌<◌, ◌≤◌, length}
use Rattle.gf_rays.specs.MarkedRays.{IsInside, IsPruned, AreFlagged}
use Rattle.gf_rays.proofs.prune.compared.Given as goal

abbrev pub invariant-loop-i : goal.invariant-loop-i
invariant-loop-i l =
    IsPruned l.initial.left.items l.left.items × ((k : ℕ) → l.i ≤ k → k < length l.left.items → IsInside l.left.items k → ⊥) ×
    ((m : ℕ) × AreFlagged m l.left.items) × (l.i ≤ length l.left.items)

abbrev pub decreases-loop-i : goal.decreases-loop-i
decreases-loop-i l = l.i
