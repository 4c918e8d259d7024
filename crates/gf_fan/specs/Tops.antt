-- The numbers of all rays of the cones that a fan is of.
use Rattle.std.specs.Prelude.{◌≡◌, ◌≢◌, ◌<◌, ℕ, List, ℤ, All, AllPairs, Contains, length, slice_get, Some}
use Rattle.gf_fans_theory.specs.FaceLists.{numbered}
use Rattle.gf_rays.specs.Cones.{RowsAndRays}

-- those of one cone
abbrev pub IsTop : List (List ℤ) → RowsAndRays → List ℕ → Type 0
IsTop rays c t = All (λ i. i < length rays) t × (numbered rays t ≡ c.rays)

-- those of the first i cones
pub record AreTopsBefore (cones : List RowsAndRays) (rays : List (List ℤ)) (i : ℕ) (tops : List (List ℕ)) : Type 0 where
  pub each : (t : List ℕ) → Contains tops t → (c : RowsAndRays) × (Contains cones c × IsTop rays c t)
  pub every : (j : ℕ) (c : RowsAndRays) → j < i → slice_get cones j ≡ Some c → (t : List ℕ) × (Contains tops t × IsTop rays c t)

-- ascending lists, each once; some of them, which have all numbers of any other one
pub record AreTopsOf (lists tops : List (List ℕ)) : Type 0 where
  pub listed : (t : List ℕ) → Contains tops t → Contains lists t
  pub over : (x : List ℕ) → Contains lists x → (t : List ℕ) × (Contains tops t × All (Contains t) x)
  pub ascending : (x : List ℕ) → Contains lists x → AllPairs (λ i j. i < j) x
  pub once : AllPairs (λ x y. x ≢ y) lists
