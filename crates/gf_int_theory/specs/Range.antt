-- The range of the numbers that the program keeps.
use Rattle.std.specs.Prelude.{◌<◌, ◌^◌, ℤ}
use Rattle.std.specs.Int.RustNames.{unsigned_abs}

-- z is from -(2^127 - 1) to 2^127 - 1
pub record InRange (z : ℤ) : Type 0 where
  pub within : unsigned_abs z < 2 ^ 127
