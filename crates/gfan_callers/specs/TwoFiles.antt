-- Two files and their bytes.
use Rattle.std.specs.Prelude.{◌≡◌, ◌≤◌, ℕ, List, length, Option, Some}

-- files have these bytes under two names, none of them more than a source may have
pub record HoldTwo (bytes : List ℕ → Option (List ℕ)) (first second a b : List ℕ) : Type 0 where
  pub is_first : bytes first ≡ Some a
  pub is_second : bytes second ≡ Some b
  pub first_short : length a ≤ 67108864
  pub second_short : length b ≤ 67108864
