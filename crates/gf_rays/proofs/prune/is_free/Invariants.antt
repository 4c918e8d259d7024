use Rattle.std.proofs.Common.{ℕ, ◌<◌}
use Rattle.gf_rays.specs.MarkedRays.{IsInside}
use Rattle.gf_rays.proofs.prune.is_free.Given as goal

abbrev pub invariant-loop-i : goal.invariant-loop-i
invariant-loop-i l = (j : ℕ) → j < l.i → IsInside l.rays j → ⊥
