use Rattle.std.proofs.Common.{ℕ}
use Rattle.gf_rays.specs.MarkedRays.{AreFlagged, IsPruned}
use Rattle.gf_rays.proofs.prune.thinned.Given as goal

abbrev pub invariant-loop-i : goal.invariant-loop-i
invariant-loop-i l = record { pruned : IsPruned l.initial.left.items l.left.items; flags : (m : ℕ) × AreFlagged m l.left.items }
