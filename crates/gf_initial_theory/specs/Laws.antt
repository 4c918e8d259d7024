-- The theorems on initial forms, neighbours and flips that functions of this crate name.
use Rattle.std.specs.Prelude.{◌≡◌, ◌↔◌, ℕ, List, ℤ, IsPermutation}
use Rattle.gf_exponents_theory.specs.Orders.{gains, IsFacetBelow, negated_row_of}
use Rattle.gf_poly.specs.Polynomial.{Terms}
use Rattle.gf_poly.specs.Marking.{MarkedPolynomial, polys}
use Rattle.gf_poly.specs.InitialForms.{IsInitialForm}
use Rattle.gf_ideal_theory.specs.Membership.{AreInVariables, IsMember}
use Rattle.gf_ideal_theory.specs.Marks.{AreMarked}
use Rattle.gf_ideal_theory.specs.Bases.{AreApart, IsReducedBasis, IsReducedBasisFor, AreSameBasis, AreArranged}
use Rattle.gf_ideal_theory.specs.WorkLists.{AreReducedTails}
use Rattle.gf_facets_theory.specs.Rows.{negated}
use Rattle.gf_facets_theory.specs.Regions.{Region, IsInRegion}
use Rattle.gf_facets_theory.specs.Facets.{IsInsideFacet, IsInClosedCone, IsFlippable}
use Rattle.gf_facets_theory.specs.Beyond.{IsFurther}
use Rattle.gf_facets_theory.specs.InitialIdeals.{IsInInitialIdeal, IsMonomialAt}
use Rattle.gf_facets_theory.specs.MarkedBases.{IsMarkedReduced, IsBasisInRegion}
use Rattle.gf_facets_theory.specs.Neighbours.{AreAdjacent}
use Rattle.gf_initial_theory.specs.Parts.{AreInitialParts, ArePartsAlong}
use Rattle.gf_initial_theory.specs.Lifts.{AreLifts, AreLifted, AreTopLifts}
use Rattle.gf_initial_theory.specs.Crossings.{HaveParts}

-- ---- initial forms

-- for a vector in the closed cone of a marked reduced basis, of any sign: the initial forms of the members generate the
-- initial ideal, and they are the marked reduced basis of it for their own marking
pub record InitialFormsOfBases : Type 0 where
  pub reduced : (n : ℕ) (fs : List Terms) (w : List ℤ) (bs ps : List MarkedPolynomial) → AreInVariables n fs →
      IsMarkedReduced n fs bs → IsInClosedCone w bs → AreInitialParts w bs ps → IsMarkedReduced n (polys ps) ps
  pub member : (n : ℕ) (fs : List Terms) (w : List ℤ) (bs ps : List MarkedPolynomial) (f g : Terms) → AreInVariables n fs →
      IsMarkedReduced n fs bs → IsInClosedCone w bs → AreInitialParts w bs ps → IsMember n fs f → IsInitialForm w f g →
      IsMember n (polys ps) g
  pub generate : (n : ℕ) (fs : List Terms) (w : List ℤ) (bs ps : List MarkedPolynomial) (q : Terms) → AreInVariables n fs →
      IsMarkedReduced n fs bs → IsInClosedCone w bs → AreInitialParts w bs ps →
      IsInInitialIdeal n fs w q ↔ IsMember n (polys ps) q

-- the parts of the members along the normal of a facet are their initial forms by each vector inside the facet; so they
-- are the same for all of these
abbrev pub PartsAreInitialForms : Type 0
PartsAreInitialForms = (n : ℕ) (fs : List Terms) (k : Region) (bs ps : List MarkedPolynomial) (a v : List ℤ) →
    IsBasisInRegion n fs k bs → IsInsideFacet bs a v → ArePartsAlong a bs ps → IsInClosedCone v bs × AreInitialParts v bs ps

-- at a vector of a region monomials generate the initial ideal exactly where a marked reduced basis of the region is the reduced
-- basis for the vector
abbrev pub MonomialIdealsAreOfBases : Type 0
MonomialIdealsAreOfBases = (n : ℕ) (k : Region) (fs : List Terms) (v : List ℤ) → AreInVariables n fs → IsInRegion n k v →
    IsMonomialAt n fs v ↔ ((bs : List MarkedPolynomial) × IsBasisInRegion n fs k bs × IsReducedBasis n fs (gains v) bs)

-- ---- neighbours

-- across each facet that may be crossed inside a region there is a neighbour of the region
abbrev pub NeighboursExist : Type 0
NeighboursExist = (n : ℕ) (fs : List Terms) (k : Region) (bs : List MarkedPolynomial) (a : List ℤ) → AreInVariables n fs →
    IsBasisInRegion n fs k bs → IsFlippable n k bs a → (cs : List MarkedPolynomial) × AreAdjacent n fs k bs a cs

-- a basis has one neighbour at most across a facet, whatever the regions and the vectors inside are; and crossing back gives
-- the basis one came from
pub record NeighboursAreUnique : Type 0 where
  pub unique : (n : ℕ) (fs : List Terms) (j k : Region) (bs : List MarkedPolynomial) (a : List ℤ) (cs ds : List MarkedPolynomial) →
      AreInVariables n fs → AreAdjacent n fs j bs a cs → AreAdjacent n fs k bs a ds → cs ≡ ds
  pub turned : (n : ℕ) (fs : List Terms) (k : Region) (bs : List MarkedPolynomial) (a : List ℤ) (cs : List MarkedPolynomial) →
      AreAdjacent n fs k bs a cs → AreAdjacent n fs k cs (negated a) bs
  pub back : (n : ℕ) (fs : List Terms) (j k : Region) (bs : List MarkedPolynomial) (a : List ℤ) (cs ds : List MarkedPolynomial) →
      AreInVariables n fs → AreAdjacent n fs j bs a cs → AreAdjacent n fs k cs (negated a) ds → ds ≡ bs

-- the parts of two neighbours along the normal are two reduced bases of one ideal: those of the one lie below their marks
-- by multiples of the normal, those of the other above; and they lead as the neighbours do
pub record NeighboursHaveParts : Type 0 where
  pub both_sides : (n : ℕ) (fs : List Terms) (k : Region) (bs ps : List MarkedPolynomial) (a : List ℤ) (cs qs : List MarkedPolynomial) →
      AreInVariables n fs → AreAdjacent n fs k bs a cs → ArePartsAlong a bs ps → ArePartsAlong a cs qs →
      IsMarkedReduced n (polys ps) ps × IsMarkedReduced n (polys ps) qs × AreMarked (IsFurther (negated a)) ps × AreMarked (IsFurther a) qs
  pub leading : (n : ℕ) (fs : List Terms) (k : Region) (bs cs : List MarkedPolynomial) (a : List ℤ) → AreInVariables n fs →
      AreAdjacent n fs k bs a cs → HaveParts n a bs cs

-- ---- flips

-- the reduced basis, for the order along the facet, of the ideal of the parts; for each member a member of the ideal whose
-- initial form it is; their tails reduced by one another; arranged: the neighbour. Such are each member less its
-- remainder, and less what steps lead to that end once nothing is left along the normal
pub record FlipsGiveNeighbours : Type 0 where
  pub neighbour : (n : ℕ) (fs : List Terms) (k : Region) (bs ps hs ls ks ts cs : List MarkedPolynomial) (a v : List ℤ) →
      AreInVariables n fs → IsBasisInRegion n fs k bs → IsInRegion n k v → IsInsideFacet bs a v → ArePartsAlong a bs ps →
      IsReducedBasisFor n (polys ps) (IsFacetBelow (negated_row_of a)) hs → AreLifted n fs v hs ls → AreSameBasis ls ks →
      AreApart ks → AreReducedTails ks ks ts → IsPermutation ts cs → AreArranged n cs → AreAdjacent n fs k bs a cs
  pub remainders : (n : ℕ) (fs : List Terms) (k : Region) (bs ps hs ls : List MarkedPolynomial) (a v : List ℤ) →
      AreInVariables n fs → IsBasisInRegion n fs k bs → IsInRegion n k v → IsInsideFacet bs a v → ArePartsAlong a bs ps →
      IsReducedBasisFor n (polys ps) (IsFacetBelow (negated_row_of a)) hs → AreLifts bs hs ls → AreLifted n fs v hs ls
  pub tops : (n : ℕ) (fs : List Terms) (k : Region) (bs ps hs ls : List MarkedPolynomial) (a v : List ℤ) →
      AreInVariables n fs → IsBasisInRegion n fs k bs → IsInRegion n k v → IsInsideFacet bs a v → ArePartsAlong a bs ps →
      IsReducedBasisFor n (polys ps) (IsFacetBelow (negated_row_of a)) hs → AreTopLifts bs a hs ls → AreLifted n fs v hs ls
