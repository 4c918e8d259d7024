-- Which normals of a cone a flip may cross, by the rows that a program keeps. Laws: proofs/CrossingLaws.antt.
-- Source: Fukuda, Jensen, Thomas, Computing Gröbner fans, 3 and 4.
use Rattle.std.specs.Prelude.{◌≡◌, ℕ, ◌<◌, List, [], ◌∷◌, length, slice_index_or, ℤ, pos, ◌<ℤ◌, Option, Some, None, Bool, IsTrue, ◌↔◌}
use Rattle.gf_vec.specs.Vector.{dot}
use Rattle.gf_gordan.specs.Alternative.{IsSolution, IsSolvable}
use Rattle.gf_facets_theory.specs.Regions.{Region}
use Rattle.gf_facets_theory.specs.Facets.{IsFlippable}
use Rattle.gf_poly.specs.Marking.{MarkedPolynomial}
use Rattle.gf_cone.specs.Cones.{ConeRows, normal_at, other_rows, IsConeOf}

-- the vector at the index i is zero on w, and that at each other index k is positive
pub record IsShownBy (vectors : List (List ℤ)) (i : ℕ) (w : List ℤ) (k : ℕ) : Type 0 where
  pub zero : k ≡ i → dot (slice_index_or vectors k []) w ≡ pos 0
  pub positive : (k ≡ i → ⊥) → pos 0 <ℤ dot (slice_index_or vectors k []) w

-- w is zero on the normal at the index i and positive on all other rows
abbrev pub IsShownAt : ConeRows → List ℤ → ℕ → Type 0
IsShownAt c w i = (i < length c.normals) × IsSolution c.variables (other_rows c i) (normal_at c i ∷ []) w

-- some vector is zero on the normal at an index and positive on all other rows: a flip may cross its facet
abbrev pub IsCrossable : ConeRows → ℕ → Type 0
IsCrossable c i = IsSolvable c.variables (other_rows c i) (normal_at c i ∷ [])

-- r tells whether a flip may cross it, of each marked list of which c is the cone, in each region
abbrev pub IsFlipDecided : ConeRows → ℕ → Bool → Type 0
IsFlipDecided c i r = (n : ℕ) (k : Region) (bs : List MarkedPolynomial) → IsConeOf n k bs c → IsTrue r ↔ IsFlippable n k bs (normal_at c i)

-- a vector that shows that a flip may cross its facet, or that none may, of each marked list of which c is the cone, in each region
abbrev pub IsCrossingDecided : ConeRows → ℕ → Option (List ℤ) → Type 0
IsCrossingDecided c i (Some w) = (n : ℕ) (k : Region) (bs : List MarkedPolynomial) → IsConeOf n k bs c → IsFlippable n k bs (normal_at c i)
IsCrossingDecided c i None = (n : ℕ) (k : Region) (bs : List MarkedPolynomial) → IsConeOf n k bs c → IsFlippable n k bs (normal_at c i) → ⊥
