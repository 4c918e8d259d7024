-- The list of all marked reduced Gröbner bases of an ideal in a region of weights, in the order of their paths.
-- Laws: proofs/BasesListLaws.antt.
-- Source: Fukuda, Jensen, Thomas, Computing Gröbner fans, 2 and 3; Avis and Fukuda, Reverse Search for Enumeration.
use Rattle.std.specs.Prelude.{◌≡◌, ◌↔◌, ℕ, Bool, List, length, All, ℤ, pos, ◌<ℤ◌}
use Rattle.gf_exponents_theory.specs.Exponents.{Exponents}
use Rattle.gf_exponents_theory.specs.Orders.{gains, IsWeightedBelow, IsTermOrder}
use Rattle.gf_poly.specs.Polynomial.{Terms}
use Rattle.gf_poly.specs.Marking.{MarkedPolynomials}
use Rattle.gf_ideal_theory.specs.Membership.{AreInVariables}
use Rattle.gf_ideal_theory.specs.Bases.{IsReducedBasis, IsReducedBasisFor, AreArranged}
use Rattle.gf_reverse_search.specs.Path.{IsRoot}
use Rattle.gf_reverse_search.specs.Listing.{Among, Rises, LeadTo}
use Rattle.gf_reverse_search.specs.Whole.{EachOnce}
use Rattle.gf_facets_theory.specs.Regions.{Region, IsRegion, IsInRegion, all_positive}
use Rattle.gf_facets_theory.specs.LexPositive.{IsBefore}
use Rattle.gf_facets_theory.specs.Facets.{IsInClosedCone}
use Rattle.gf_facets_theory.specs.InitialIdeals.{IsMonomialAt}
use Rattle.gf_reverse_theory.specs.Upward.{IsParent}
use Rattle.gf_reverse_theory.specs.TermOrders.{below_by}

-- some weight of the region gives the basis: for this weight x is the reduced Gröbner basis of the ideal of fs in n variables, arranged
pub record IsGivenIn (n : ℕ) (k : Region) (fs : List Terms) (x : MarkedPolynomials) : Type 0 where
  pub variables : x.variables ≡ n
  pub arranged : AreArranged n x.items
  pub weight : List ℤ
  pub inside : IsInRegion n k weight
  pub reduced : IsReducedBasis n fs (gains weight) x.items

-- the list has exactly the bases that some weight of the region gives, each once, in the order of their paths from the root. The root is
-- the basis for the root of the region, ties broken by lex. A path has the normals of the facets that are crossed on the way down, each as
-- a normal of the upper basis. The parent of a basis is across the facet with the least normal of those that a flip may cross in the region
-- and that are negative at its root
pub record AreAllBasesIn (n : ℕ) (k : Region) (fs : List Terms) (list : List MarkedPolynomials) : Type 0 where
  pub only : (x : MarkedPolynomials) → Among list x → IsGivenIn n k fs x
  pub all : (x : MarkedPolynomials) → IsGivenIn n k fs x → Among list x
  pub once : EachOnce list
  pub root : MarkedPolynomials
  pub listed : Among list root
  pub by_root : IsReducedBasisFor n fs (IsWeightedBelow (gains k.root)) root.items
  pub is_root : IsRoot (IsParent k) root
  pub paths : List (List (List ℤ))
  pub lead : LeadTo (IsParent k) root paths list
  pub rises : Rises IsBefore paths

-- some positive weight gives the basis: for this weight x is the reduced Gröbner basis of the ideal of fs in n variables, arranged
abbrev pub IsGivenByWeight : ℕ → List Terms → MarkedPolynomials → Type 0
IsGivenByWeight n fs x = IsGivenIn n (all_positive n) fs x

-- the list has exactly the bases that some positive weight gives, each once, in the order of their paths from the root. The root is the
-- basis for deglex, which is the one for the weight (1, .., 1), ties broken by lex
abbrev pub AreAllBases : ℕ → List Terms → List MarkedPolynomials → Type 0
AreAllBases n fs list = AreAllBasesIn n (all_positive n) fs list

-- ---- properties of such a list

-- a basis is in the list if and only if some positive weight gives it. For each positive weight for which monomials generate the initial
-- ideal, and for each term order, exactly one basis of the list is the reduced basis. Each positive weight is in the closed cone of a basis
-- of the list
pub record WeightsAreServed : Type 0 where
  pub exactly : (n : ℕ) (fs : List Terms) (list : List MarkedPolynomials) (x : MarkedPolynomials) → AreAllBases n fs list →
      Among list x ↔ IsGivenByWeight n fs x
  pub monomial : (n : ℕ) (fs : List Terms) (list : List MarkedPolynomials) (w : List ℤ) → AreInVariables n fs → AreAllBases n fs list →
      length w ≡ n → All (λ k. pos 0 <ℤ k) w → IsMonomialAt n fs w →
      (x : MarkedPolynomials) × Among list x × IsReducedBasis n fs (gains w) x.items
      × ((y : MarkedPolynomials) → Among list y → IsReducedBasis n fs (gains w) y.items → x ≡ y)
  pub cones : (n : ℕ) (fs : List Terms) (list : List MarkedPolynomials) (w : List ℤ) → AreInVariables n fs → AreAllBases n fs list →
      length w ≡ n → All (λ k. pos 0 <ℤ k) w → (x : MarkedPolynomials) × Among list x × IsInClosedCone w x.items
  pub orders : (n : ℕ) (fs : List Terms) (list : List MarkedPolynomials) (less : Exponents → Exponents → Bool) → AreInVariables n fs → AreAllBases n fs list →
      IsTermOrder n (below_by less) →
      (x : MarkedPolynomials) × Among list x × IsReducedBasisFor n fs (below_by less) x.items
      × ((y : MarkedPolynomials) → Among list y → IsReducedBasisFor n fs (below_by less) y.items → x ≡ y)

-- a basis is in the list of a region if and only if some weight of the region gives it. For each weight of the region for which monomials
-- generate the initial ideal exactly one basis of the list is the reduced basis. Each weight of the region is in the closed cone of a basis
-- of the list
pub record RegionsAreServed : Type 0 where
  pub exactly : (n : ℕ) (k : Region) (fs : List Terms) (list : List MarkedPolynomials) (x : MarkedPolynomials) → AreAllBasesIn n k fs list →
      Among list x ↔ IsGivenIn n k fs x
  pub monomial : (n : ℕ) (k : Region) (fs : List Terms) (list : List MarkedPolynomials) (w : List ℤ) → AreInVariables n fs → IsRegion n k →
      AreAllBasesIn n k fs list → IsInRegion n k w → IsMonomialAt n fs w → (x : MarkedPolynomials) × Among list x × IsReducedBasis n fs (gains w) x.items
      × ((y : MarkedPolynomials) → Among list y → IsReducedBasis n fs (gains w) y.items → x ≡ y)
  pub cones : (n : ℕ) (k : Region) (fs : List Terms) (list : List MarkedPolynomials) (w : List ℤ) → AreInVariables n fs → IsRegion n k →
      AreAllBasesIn n k fs list → IsInRegion n k w → (x : MarkedPolynomials) × Among list x × IsInClosedCone w x.items
