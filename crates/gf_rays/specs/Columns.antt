-- Which rays have a flag: a column for each flag.
use Rattle.std.specs.Prelude.{◌≡◌, ℕ, ◌<◌, List, Bool, length, slice_index_or}
use Rattle.gf_rays.specs.declared.ray.Ray.{Ray}
use Rattle.gf_rays.specs.Flags.{flag_at}

-- for each ray the flag at k
pub record IsColumn (k : ℕ) (rays : List Ray) (column : List Bool) : Type 0 where
  pub long : length column ≡ length rays
  pub each : (j : ℕ) (d : Ray) → j < length rays → flag_at column j ≡ flag_at (slice_index_or rays j d).zero k

-- the columns of the first m flags
pub record AreColumns (m : ℕ) (rays : List Ray) (columns : List (List Bool)) : Type 0 where
  pub long : length columns ≡ m
  pub each : (k : ℕ) (d : List Bool) → k < m → IsColumn k rays (slice_index_or columns k d)
