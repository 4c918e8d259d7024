use Rattle.std.proofs.Common.{ℕ, ◌<◌, ◌++◌, ◌∷◌, [], get_or, true}
use Rattle.gf_rays.specs.declared.ray.Ray.{Ray}
use Rattle.gf_rays.specs.Flags.{common, IsBelow}
use Rattle.gf_rays.proofs.ray.is_covered.Given as goal

abbrev pub invariant-loop-ray : goal.invariant-loop-ray
invariant-loop-ray l = (j : ℕ) (d : Ray) → j < l.ray-index → IsBelow (common l.p l.q ++ true ∷ []) (get_or l.rays j d).zero → ⊥
