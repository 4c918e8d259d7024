-- Faces of a cone by the lists of their rays.
use Rattle.std.specs.Prelude.{◌≡◌, ℕ, ◌<◌, List, [], ◌++◌, ℤ, pos, All, AllPairs, Contains, length, map, slice_index_or}
use Rattle.std.specs.Ordering.{int_cmp}
use Rattle.std.specs.Cmp.Lexicographic.{slice_cmp}
use Rattle.std.specs.declared.cmp.Ordering.TheVariants.{Less}
use Rattle.gf_vec.specs.Vector.{dot}
use Rattle.gf_duality_theory.specs.Rays.{IsRays}
use Rattle.gf_duality_theory.specs.Faces.{Rows}
use Rattle.gf_fans_theory.specs.Dimension.{HasDimension}

-- part has, ascending, the rays on which these rows are zero
pub record IsPartOn (flat rays part : List (List ℤ)) : Type 0 where
  pub ascending : AllPairs (λ x y. slice_cmp int_cmp x y ≡ Less) part
  pub each : (r : List ℤ) → Contains part r → Contains rays r × ((t : List ℤ) → Contains flat t → dot t r ≡ pos 0)
  pub every : (r : List ℤ) → Contains rays r → ((t : List ℤ) → Contains flat t → dot t r ≡ pos 0) → Contains part r

-- the rows that are zero on these rays
pub record AreZeroRows (rows rays flat : List (List ℤ)) : Type 0 where
  pub each : (t : List ℤ) → Contains flat t → Contains rows t × ((r : List ℤ) → Contains rays r → dot t r ≡ pos 0)
  pub every : (t : List ℤ) → Contains rows t → ((r : List ℤ) → Contains rays r → dot t r ≡ pos 0) → Contains flat t

-- the vectors with these numbers
abbrev pub numbered : List (List ℤ) → List ℕ → List (List ℤ)
numbered rays numbers = map (λ i. slice_index_or rays i []) numbers

-- ascending numbers of some of the rays
pub record AreNumbers (rays : List (List ℤ)) (numbers : List ℕ) : Type 0 where
  pub ascending : AllPairs (λ i j. i < j) numbers
  pub inside : All (λ i. i < length rays) numbers

-- the part of a cone on which these of its inequalities are zero has the rays with these numbers, and this dimension
pub record IsFaceBy (n : ℕ) (c : Rows) (lin rays zero : List (List ℤ)) (numbers : List ℕ) (dimension : ℕ) : Type 0 where
  pub listed : AreNumbers rays numbers
  pub are_rays : IsRays n c.inequalities (c.equations ++ zero) lin (numbered rays numbers)
  pub spans : HasDimension n (numbered rays numbers ++ lin) dimension
