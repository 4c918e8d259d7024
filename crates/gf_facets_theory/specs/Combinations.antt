-- A positive multiple of a vector as a combination of rows: that the row is redundant beside them.
-- Laws: proofs/FacetSystems.antt. Source: Schrijver, Theory of Linear and Integer Programming, 7.3 (Farkas' lemma).
use Rattle.std.specs.Prelude.{◌≡◌, ℕ, List, ℤ, pos, ◌<ℤ◌, ◌≤ℤ◌, length, All}
use Rattle.gf_int_theory.specs.Content.{scaled}
use Rattle.gf_vec.specs.Vector.{combined}

-- k times a, k at least 1, is the combination of the rows by these multipliers, none of which is negative
pub record IsCombination (n : ℕ) (rows : List (List ℤ)) (a : List ℤ) (k : ℤ) (ms : List ℤ) : Type 0 where
  pub positive : pos 0 <ℤ k
  pub count : length ms ≡ length rows
  pub not_negative : All (λ m. pos 0 ≤ℤ m) ms
  pub sum : scaled k a ≡ combined n ms rows

-- some multiple is some combination
abbrev pub IsRowRedundant : ℕ → List (List ℤ) → List ℤ → Type 0
IsRowRedundant n rows a = (k : ℤ) × (ms : List ℤ) × IsCombination n rows a k ms
