-- All faces of a cone by numbers, and their dimensions by what is inside what.
use Rattle.std.specs.Prelude.{◌≡◌, ◌≢◌, ◌⊎◌, ◌+◌, ℕ, ◌<◌, List, [], ℤ, length, All, AllPairs, Contains, slice_index_or}
use Rattle.gf_fans_theory.specs.FaceLists.{IsPartOn, AreNumbers, numbered}

-- the numbers of the rays of all faces, each once: those on which the rows at some indices are zero
pub record AreParts (rows rays : List (List ℤ)) (parts : List (List ℕ)) : Type 0 where
  pub each : (f : List ℕ) → Contains parts f → (ks : List ℕ) × (((k : ℕ) → Contains ks k → k < length rows) × AreNumbers rays f × IsPartOn (numbered rows ks)
      rays (numbered rays f))
  pub every : (ks : List ℕ) → ((k : ℕ) → Contains ks k → k < length rows) →
      (f : List ℕ) × (Contains parts f × IsPartOn (numbered rows ks) rays (numbered rays f))
  pub once : AllPairs (λ f g. f ≢ g) parts

-- each number of the part at j is one of that at i
abbrev pub IsWithinPart : List (List ℕ) → ℕ → ℕ → Type 0
IsWithinPart parts j i = All (Contains (slice_index_or parts i [])) (slice_index_or parts j [])

-- the part at j is the last before that at i inside it
pub record IsNextBelow (parts : List (List ℕ)) (i j : ℕ) : Type 0 where
  pub before : j < i
  pub within : IsWithinPart parts j i
  pub later : (k : ℕ) → j < k → k < i → IsWithinPart parts k i → ⊥

-- the least height where no part before it is inside, else one more than that of the last such part
abbrev pub IsHeight : ℕ → List (List ℕ) → List ℕ → ℕ → Type 0
IsHeight least parts heights i = (((j : ℕ) → j < i → IsWithinPart parts j i → ⊥) × (slice_index_or heights i 0 ≡ least)) ⊎
    ((j : ℕ) × (IsNextBelow parts i j × (slice_index_or heights i 0 ≡ slice_index_or heights j 0 + 1)))

-- a height for each part, by those inside it
pub record AreHeights (least : ℕ) (parts : List (List ℕ)) (heights : List ℕ) : Type 0 where
  pub long : length heights ≡ length parts
  pub each : (i : ℕ) → i < length parts → IsHeight least parts heights i

-- ascending, the numbers below n
pub record AreFirst (n : ℕ) (numbers : List ℕ) : Type 0 where
  pub ascending : AllPairs (λ i j. i < j) numbers
  pub each : (i : ℕ) → Contains numbers i → i < n
  pub every : (i : ℕ) → i < n → Contains numbers i
