-- Products of points with what generates a cone, and points that are nowhere above another one, or as high as one.
use Rattle.std.specs.Prelude.{◌≡◌, ◌≢◌, ◌↔◌, ℕ, ◌<◌, List, [], map, ℤ, pos, negsuc, ◌≤ℤ◌, length, AllPairs, Contains, slice_index_or}
use Rattle.gf_vec.specs.Vector.{dot}
use Rattle.gf_gordan.specs.Alternative.{AreRows}
use Rattle.gf_duality_theory.specs.Rays.{IsRays}
use Rattle.gf_rays.specs.Cones.{RowsAndRays}
use Rattle.gf_levels_theory.specs.Generators.{generators}
use Rattle.gf_levels_theory.specs.Parts.{IsAbove}
use Rattle.gf_cuts.specs.Drawn.{IsDifferenceOf}

-- its rays and its lineality basis are those of its rows
abbrev pub HasItsRays : RowsAndRays → Type 0
HasItsRays c = IsRays c.ambient c.inequalities c.equations c.lineality c.rays

-- what generates the cone without lines: the rays, the lineality vectors, and these turned
abbrev pub generators_of : RowsAndRays → List (List ℤ)
generators_of c = generators c.rays c.lineality

-- the products of a point with these vectors
abbrev pub heights : List (List ℤ) → List ℤ → List ℤ
heights xs a = map (dot a) xs

-- the products of the points with what generates the cone
abbrev pub table : RowsAndRays → List (List ℤ) → List (List ℤ)
table c A = map (heights (generators_of c)) A

-- equally many numbers, none of them above that of the other list at its index
pub record IsBelow (xs ys : List ℤ) : Type 0 where
  pub long : length xs ≡ length ys
  pub up : (k : ℕ) → k < length xs → slice_index_or xs k (pos 0) ≤ℤ slice_index_or ys k (pos 0)

-- the row at an index
abbrev pub row_at : List (List ℤ) → ℕ → List ℤ
row_at rows i = slice_index_or rows i []

-- some of the indices, so that the row at each of the indices is below that at one of these
pub record IsThinned (rows : List (List ℤ)) (indices kept : List ℕ) : Type 0 where
  pub each : (y : ℕ) → Contains kept y → Contains indices y
  pub every : (x : ℕ) → Contains indices x → (y : ℕ) × (Contains kept y × IsBelow (row_at rows x) (row_at rows y))

-- the indices below a number but one
pub record AreIndicesBut (count but : ℕ) (indices : List ℕ) : Type 0 where
  pub each : (k : ℕ) → Contains indices k → (k < count) × (k ≢ but)
  pub every : (k : ℕ) → k < count → k ≢ but → Contains indices k

-- 0 where both numbers are the same, else -1
pub record IsMark (x y m : ℤ) : Type 0 where
  pub same : x ≡ y → m ≡ pos 0
  pub other : x ≢ y → m ≡ negsuc 0

-- that for each index of two lists
pub record AreMarks (xs ys ms : List ℤ) : Type 0 where
  pub long : length ms ≡ length xs
  pub each : (k : ℕ) → k < length xs → IsMark (slice_index_or xs k (pos 0)) (slice_index_or ys k (pos 0)) (slice_index_or ms k (pos 0))

-- that for each of these rows against the one at top
pub record AreMarkRows (rows : List (List ℤ)) (top : ℕ) (marks : List (List ℤ)) : Type 0 where
  pub long : length marks ≡ length rows
  pub each : (k : ℕ) → k < length rows → AreMarks (row_at rows top) (row_at rows k) (row_at marks k)

-- all numbers are zero
abbrev pub AreZero : List ℤ → Type 0
AreZero xs = (k : ℕ) → k < length xs → slice_index_or xs k (pos 0) ≡ pos 0

-- the indices below a number, ascending, at which both lists have the same entry
pub record AreTiedIndices (xs ys : List ℤ) (count : ℕ) (indices : List ℕ) : Type 0 where
  pub ascending : AllPairs (λ i j. i < j) indices
  pub each : (k : ℕ) → Contains indices k → (k < count) × (slice_index_or xs k (pos 0) ≡ slice_index_or ys k (pos 0))
  pub every : (k : ℕ) → k < count → slice_index_or xs k (pos 0) ≡ slice_index_or ys k (pos 0) → Contains indices k

-- rows that are negative nowhere exactly where none of the points at these indices is above the one at top; each is one of the points less one of them
pub record AreRowsOver (A : List (List ℤ)) (top : ℕ) (indices : List ℕ) (rows : List (List ℤ)) : Type 0 where
  pub wide : (n : ℕ) → AreRows n A → AreRows n rows
  pub drawn : (h : List ℤ) → Contains rows h → IsDifferenceOf A h
  pub says : (v : List ℤ) → ((h : List ℤ) → Contains rows h → pos 0 ≤ℤ dot h v) ↔ IsAbove A top indices v
