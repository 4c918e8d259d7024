-- The Gröbner fan of an ideal in a region as a tree: its bases, and the way up from each.
-- Laws: proofs/UpwardLaws.antt, proofs/FanLaws.antt, proofs/TreeLaws.antt.
-- Source: Fukuda, Jensen, Thomas, Computing Gröbner fans, 3 and 4.
use Rattle.std.specs.Prelude.{◌≡◌, ◌⊎◌, ℕ, List, length, All, ℤ, pos, ◌≤ℤ◌}
use Rattle.gf_poly.specs.Polynomial.{Terms}
use Rattle.gf_poly.specs.Marking.{MarkedPolynomial, MarkedPolynomials, polys}
use Rattle.gf_ideal_theory.specs.Membership.{AreInVariables}
use Rattle.gf_facets_theory.specs.Rows.{negated}
use Rattle.gf_facets_theory.specs.Regions.{Region, IsRegion}
use Rattle.gf_facets_theory.specs.LexPositive.{IsLexPositive, rooted, IsNegative, IsBefore}
use Rattle.gf_facets_theory.specs.Facets.{IsFlippable}
use Rattle.gf_facets_theory.specs.MarkedBases.{IsBasisInRegion}
use Rattle.gf_facets_theory.specs.Neighbours.{AreAdjacent}

-- ---- the way to a root

-- r can be a root of the region: a weight with entries at least 0, on which each row of the region is positive, or zero where
-- the row's own first nonzero entry is positive. In the region of all positive vectors each weight r with entries at least 0
-- is one, also (0, .., 0); the region's own root is one.
pub record IsRootWeight (n : ℕ) (k : Region) (r : List ℤ) : Type 0 where
  pub width : length r ≡ n
  pub natural : All (λ c. pos 0 ≤ℤ c) r
  pub rows : All (λ t. IsLexPositive (rooted r t)) k.rows

-- a facet with a normal that is negative at r, which a flip may cross
pub record LeadsTowards (n : ℕ) (k : Region) (r : List ℤ) (bs : List MarkedPolynomial) (a : List ℤ) : Type 0 where
  pub flippable : IsFlippable n k bs a
  pub negative : IsNegative r a

-- a facet that a flip may cross, with a normal that is negative at the region's own root
abbrev pub LeadsUp : ℕ → Region → List MarkedPolynomial → List ℤ → Type 0
LeadsUp n k bs a = LeadsTowards n k k.root bs a

-- a is the way up from bs: the least of the normals of facets that a flip may cross and that are negative at the region's own root
pub record IsWayUp (n : ℕ) (k : Region) (bs : List MarkedPolynomial) (a : List ℤ) : Type 0 where
  pub leads : LeadsUp n k bs a
  pub least : (b : List ℤ) → LeadsUp n k bs b → (a ≡ b) ⊎ IsBefore a b

-- an ideal in n variables, by generators, and a region
pub record Fan : Type 0 where
  pub variables : ℕ
  pub ideal : List Terms
  pub region : Region

-- the generators of the ideal are in its variables, and the region has its root
pub record IsFanOfIdeal (F : Fan) : Type 0 where
  pub ideal : AreInVariables F.variables F.ideal
  pub region : IsRegion F.variables F.region

-- v is a basis of the ideal in the region
pub record IsNodeIn (F : Fan) (v : MarkedPolynomials) : Type 0 where
  pub fan : IsFanOfIdeal F
  pub variables : v.variables ≡ F.variables
  pub basis : IsBasisInRegion F.variables F.ideal F.region v.items

-- u is the parent of v: it is across the way up from v, and c is the normal by which a flip leads back
pub record IsParentIn (F : Fan) (v : MarkedPolynomials) (c : List ℤ) (u : MarkedPolynomials) : Type 0 where
  pub fan : IsFanOfIdeal F
  pub child : v.variables ≡ F.variables
  pub parent : u.variables ≡ F.variables
  pub normal : List ℤ
  pub way : IsWayUp F.variables F.region v.items normal
  pub adjacent : AreAdjacent F.variables F.ideal F.region v.items normal u.items
  pub label : c ≡ negated normal

-- ---- the ideal that a node generates

-- the ideal that the polynomials of v generate, in a region
abbrev pub fan_of : Region → MarkedPolynomials → Fan
fan_of k v = record { variables = v.variables; ideal = polys v.items; region = k }

-- v is a basis, in the region, of the ideal that it generates
abbrev pub IsNode : Region → MarkedPolynomials → Type 0
IsNode k v = IsNodeIn (fan_of k v) v

-- u is the parent of v in the fan of the ideal that v generates, and c is the normal by which a flip leads back
abbrev pub IsParent : Region → MarkedPolynomials → List ℤ → MarkedPolynomials → Type 0
IsParent k v c u = IsParentIn (fan_of k v) v c u
