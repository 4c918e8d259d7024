-- What a cone remembers of its normals: what is known of each is true.
use Rattle.std.specs.Prelude.{◌≡◌, ℕ, ◌<◌, List, [], ◌∷◌, length, slice_index_or}
use Rattle.gf_gordan.specs.Alternative.{IsSolution}
use Rattle.gf_cone.specs.Cones.{ConeRows, normal_at, other_rows}
use Rattle.gf_cone.specs.Crossing.{IsCrossable}
use Rattle.gf_known_cone.specs.declared.known.Known.{Known}
use Rattle.gf_known_cone.specs.declared.known.Known.TheVariants.{Open, Yes, No}

-- what is known of the normal at an index is true
abbrev pub IsRemembered : ConeRows → ℕ → Known → Type 0
IsRemembered c i Open = Unit {0}
IsRemembered c i (Yes w) = IsSolution c.variables (other_rows c i) (normal_at c i ∷ []) w
IsRemembered c i No = IsCrossable c i → ⊥

-- so it is of each normal, and there are as many entries as normals
pub record AreRemembered (c : ConeRows) (known : List Known) : Type 0 where
  pub each : length known ≡ length c.normals
  pub true_of : (i : ℕ) (d : Known) → i < length known → IsRemembered c i (slice_index_or known i d)
