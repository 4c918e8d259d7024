-- The normals that a flip may cross, as a list.
use Rattle.std.specs.Prelude.{◌≡◌, ◌⊎◌, ℕ, List, [], ◌∷◌, ◌++◌, ℤ, Contains}
use Rattle.gf_poly.specs.Marking.{MarkedPolynomial, MarkedPolynomials}
use Rattle.gf_facets_theory.specs.Regions.{Region}
use Rattle.gf_facets_theory.specs.Facets.{IsFlippable}
use Rattle.gf_facets_theory.specs.Normals.{Ascends}
use Rattle.gf_cone.specs.Cones.{ConeRows, normal_at, IsConeOf}
use Rattle.gf_flip.specs.declared.error.TreeError.{TreeError}
use Rattle.gf_tree.specs.Refusals.{IsRefusedAtBasis}

-- ns has exactly the normals that a flip may cross inside the region, each once and ascending
pub record AreCrossable (n : ℕ) (k : Region) (bs : List MarkedPolynomial) (ns : List (List ℤ)) : Type 0 where
  pub rises : Ascends ns
  pub only : (a : List ℤ) → Contains ns a → IsFlippable n k bs a
  pub all : (a : List ℤ) → IsFlippable n k bs a → Contains ns a

-- for each marked list of which c is the cone: either a flip may cross the facet of the normal at i, and the new list has this normal in
-- addition; or it may not, and the list is as before
abbrev pub IsWithState : ConeRows → ℕ → List (List ℤ) → List (List ℤ) → Type 0
IsWithState c i list more =
    ((more ≡ list ++ normal_at c i ∷ []) × ((n : ℕ) (k : Region) (bs : List MarkedPolynomial) → IsConeOf n k bs c → IsFlippable n k bs (normal_at c i)))
    ⊎ ((more ≡ list) × ((n : ℕ) (k : Region) (bs : List MarkedPolynomial) → IsConeOf n k bs c → IsFlippable n k bs (normal_at c i) → ⊥))

-- for each basis of which c is the cone: a call at this basis is refused with e
abbrev pub IsRefusedAtState : ConeRows → ℕ → TreeError → Type 0
IsRefusedAtState c i e = (k : Region) (pairs : ℕ) (v : MarkedPolynomials) → IsConeOf v.variables k v.items c → IsRefusedAtBasis k pairs v e
