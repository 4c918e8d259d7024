use Rattle.std.proofs.Common.{ℕ, ◌<◌}
use Rattle.gf_weights.specs.Cuts.{IsZeroAt}
use Rattle.gf_weights.proofs.cut.has_ray_off.Given as goal

abbrev pub invariant-loop-ray : goal.invariant-loop-ray
invariant-loop-ray l = (j : ℕ) → j < l.ray → IsZeroAt l.rays l.index j → IsZeroAt l.rays l.other j
