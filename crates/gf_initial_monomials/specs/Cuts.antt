-- The part of a cone on which none of some rows is negative, by whatever rows of its own. Laws: proofs/CutLaws.antt.
use Rattle.std.specs.Prelude.{◌≡◌, ◌⊎◌, ℕ, List, ◌++◌, ℤ, pos, ◌≤ℤ◌, length, Contains}
use Rattle.gf_vec.specs.Vector.{dot}
use Rattle.gf_duality_theory.specs.Faces.{Rows, IsInCone, SameCone}
use Rattle.gf_rays.specs.Cones.{RowsAndRays, rows_of}

-- c with these inequalities behind its own
abbrev pub with_rows : Rows → List (List ℤ) → Rows
with_rows c rows = record { inequalities = c.inequalities ++ rows; equations = c.equations }

-- t is negative nowhere on the cone c
abbrev pub IsNowhereNegative : ℕ → Rows → List ℤ → Type 0
IsNowhereNegative n c t = (x : List ℤ) → length x ≡ n → IsInCone c x → pos 0 ≤ℤ dot t x

-- some of the rows, and among them all that are negative somewhere on the cone c
pub record AreCutting (n : ℕ) (c : Rows) (rows out : List (List ℤ)) : Type 0 where
  pub each : (t : List ℤ) → Contains out t → Contains rows t
  pub every : (t : List ℤ) → Contains rows t → Contains out t ⊎ IsNowhereNegative n c t

-- the vectors of d are those of c on which none of the rows is negative
pub record IsPartAs (c : Rows) (n : ℕ) (rows : List (List ℤ)) (d : RowsAndRays) : Type 0 where
  pub ambient : d.ambient ≡ n
  pub same : SameCone n (rows_of d) (with_rows c rows)
