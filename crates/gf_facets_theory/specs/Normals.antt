-- The normals of a marked list as a program keeps them: each once, in ascending order; the systems of one of them.
-- Laws: proofs/NormalListLaws.antt, proofs/FacetSystems.antt.
use Rattle.std.specs.Prelude.{ℕ, List, [], ◌∷◌, ◌++◌, ℤ, Contains, take, drop}
use Rattle.gf_poly.specs.Marking.{MarkedPolynomial}
use Rattle.gf_facets_theory.specs.Rows.{IsNormal}
use Rattle.gf_facets_theory.specs.Systems.{units}
use Rattle.gf_facets_theory.specs.LexPositive.{IsBefore}
use Rattle.gf_facets_theory.specs.Regions.{Region}

-- each vector comes before all that follow
abbrev pub Ascends : List (List ℤ) → Type 0
Ascends [] = Unit {0}
Ascends (x ∷ xs) = ((y : List ℤ) → Contains xs y → IsBefore x y) × Ascends xs

-- exactly the normals, each once and ascending
pub record AreNormals (bs : List MarkedPolynomial) (ns : List (List ℤ)) : Type 0 where
  pub rises : Ascends ns
  pub only : (a : List ℤ) → Contains ns a → IsNormal bs a
  pub all : (a : List ℤ) → IsNormal bs a → Contains ns a

-- all but the one at an index
abbrev pub others_of : ℕ → List (List ℤ) → List (List ℤ)
others_of i ns = take i ns ++ drop 1 (drop i ns)

-- the rows that tell whether a flip may cross the facet of the normal at an index, in n variables: the other normals, the rows
-- of the region, the unit vectors
abbrev pub flip_rows : ℕ → Region → List (List ℤ) → ℕ → List (List ℤ)
flip_rows n k ns i = (others_of i ns ++ k.rows) ++ units n n
