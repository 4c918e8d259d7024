-- Parts of cones by a second list: what a cone of the one list and a cone of the other share lies inside one of them.
use Rattle.std.specs.Prelude.{◌≡◌, ℕ, List, ℤ, Contains, length}
use Rattle.gf_duality_theory.specs.Faces.{Rows, IsInCone, SameCone}
use Rattle.gf_fans_theory.specs.Fans.{meet}

-- each vector of n entries in c is in d
abbrev pub IsHeldBy : ℕ → Rows → Rows → Type 0
IsHeldBy n c d = (v : List ℤ) → length v ≡ n → IsInCone c v → IsInCone d v

-- p is what a cone of cs and a cone of ds share, by whatever rows
pub record IsCut (n : ℕ) (cs ds : List Rows) (p : Rows) : Type 0 where
  pub first : Rows
  pub second : Rows
  pub of_first : Contains cs first
  pub of_second : Contains ds second
  pub same : SameCone n p (meet first second)

-- each part is such, and what any two share lies inside one of the parts
pub record AreCuts (n : ℕ) (cs ds parts : List Rows) : Type 0 where
  pub each : (p : Rows) → Contains parts p → IsCut n cs ds p
  pub every : (c d : Rows) → Contains cs c → Contains ds d → (p : Rows) × (Contains parts p × IsHeldBy n (meet c d) p)
