-- What holds of the vectors that a program keeps of a cone: some normals, and then the rows of a region. The unit vectors, which
-- stand behind them, aren't kept.
use Rattle.std.specs.Prelude.{ℕ, ◌≤◌, List, ℤ, length, All, take}
use Rattle.gf_gordan.specs.Alternative.{AreRows}
use Rattle.gf_cone.specs.Small.{IsSmall}

-- the vectors have n entries, and the first `count` of them are normals, whose entries are small
pub record AreVectorsKept (n : ℕ) (vectors : List (List ℤ)) (count : ℕ) : Type 0 where
  pub inside : count ≤ length vectors
  pub widths : AreRows n vectors
  pub small : All IsSmall (take count vectors)
