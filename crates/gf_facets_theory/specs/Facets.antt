-- The closed and the open cone of a marked list, its facets, and those that a flip may cross.
-- Source: Fukuda, Jensen, Thomas, Computing Gröbner fans, 2 and 4.
use Rattle.std.specs.Prelude.{◌≡◌, ◌⊎◌, ℕ, true, List, Contains, ℤ, pos, ◌<ℤ◌, ◌≤ℤ◌, length}
use Rattle.gf_exponents_theory.specs.Exponents.{Exponents, same, whole_weight}
use Rattle.gf_poly.specs.Marking.{MarkedPolynomial}
use Rattle.gf_ideal_theory.specs.Membership.{HasMonomial}
use Rattle.gf_vec.specs.Vector.{dot}
use Rattle.gf_facets_theory.specs.Rows.{IsNormal}
use Rattle.gf_facets_theory.specs.Regions.{Region, IsInRegion}

-- ---- cones

-- no monomial of b weighs more than the mark
abbrev pub IsWeaklyMarked : List ℤ → MarkedPolynomial → Type 0
IsWeaklyMarked w b = (x : Exponents) → HasMonomial b.poly x → whole_weight w x ≤ℤ whole_weight w b.head

-- so it is with each member: w is in the closed cone of bs
abbrev pub IsInClosedCone : List ℤ → List MarkedPolynomial → Type 0
IsInClosedCone w bs = (b : MarkedPolynomial) → Contains bs b → IsWeaklyMarked w b

-- each other monomial of b weighs less than the mark
abbrev pub IsStrictlyMarked : List ℤ → MarkedPolynomial → Type 0
IsStrictlyMarked w b = (x : Exponents) → HasMonomial b.poly x →
    (same x b.head ≡ true) ⊎ (whole_weight w x <ℤ whole_weight w b.head)

-- so it is with each member: w is in the open cone of bs
abbrev pub IsInOpenCone : List ℤ → List MarkedPolynomial → Type 0
IsInOpenCone w bs = (b : MarkedPolynomial) → Contains bs b → IsStrictlyMarked w b

-- ---- facets

-- v is inside the facet with normal a: zero on a, and positive on each other normal
pub record IsInsideFacet (bs : List MarkedPolynomial) (a v : List ℤ) : Type 0 where
  pub normal : IsNormal bs a
  pub zero : dot a v ≡ pos 0
  pub positive : (b : List ℤ) → IsNormal bs b → (b ≡ a → ⊥) → pos 0 <ℤ dot b v

-- a is the normal of a facet
pub record IsFacet (n : ℕ) (bs : List MarkedPolynomial) (a : List ℤ) : Type 0 where
  pub point : List ℤ
  pub width : length point ≡ n
  pub inside : IsInsideFacet bs a point

-- some vector inside the facet is in the region
pub record IsFlippable (n : ℕ) (k : Region) (bs : List MarkedPolynomial) (a : List ℤ) : Type 0 where
  pub point : List ℤ
  pub region : IsInRegion n k point
  pub inside : IsInsideFacet bs a point
