use Rattle.std.proofs.Common.{◌≡◌, ℕ, ◌<◌}
use Rattle.gf_weights.specs.Cuts.{HasRayOff}
use Rattle.gf_weights.proofs.cut.is_flippable.Given as goal

abbrev pub invariant-loop-other : goal.invariant-loop-other
invariant-loop-other l = (k : ℕ) → k < l.other → (k ≡ l.index → ⊥) → HasRayOff l.cut.rays l.index k
