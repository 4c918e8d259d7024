-- The index of a vector in a list, and the normals that lead down.
use Rattle.std.specs.Prelude.{◌≡◌, ℕ, ◌<◌, List, [], length, slice_index_or, ℤ, Contains, Option, Some, None}
use Rattle.gf_poly.specs.Marking.{MarkedPolynomial}
use Rattle.gf_facets_theory.specs.Rows.{IsNormal}
use Rattle.gf_facets_theory.specs.LexPositive.{IsNegative}
use Rattle.gf_facets_theory.specs.Normals.{Ascends}

-- some index: v is in the list at this index. None: v isn't in the list
abbrev pub IsVectorIndex : List (List ℤ) → List ℤ → Option ℕ → Type 0
IsVectorIndex list v (Some i) = (i < length list) × (slice_index_or list i [] ≡ v)
IsVectorIndex list v None = Contains list v → ⊥

-- ns has exactly the normals of bs that aren't negative at the root r, each once and ascending
pub record AreDownward (r : List ℤ) (bs : List MarkedPolynomial) (ns : List (List ℤ)) : Type 0 where
  pub rises : Ascends ns
  pub only : (a : List ℤ) → Contains ns a → IsNormal bs a × (IsNegative r a → ⊥)
  pub all : (a : List ℤ) → IsNormal bs a → (IsNegative r a → ⊥) → Contains ns a
