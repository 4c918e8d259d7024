-- The theorems on the set of reduced Gröbner bases that functions of this crate name.
use Rattle.std.specs.Prelude.{◌≡◌, ◌↔◌, ℕ, ◌<◌, List, length, Contains, ℤ}
use Rattle.gf_facets_theory.specs.Alternative.{AreRows}
use Rattle.gf_exponents_theory.specs.Exponents.{Exponents, Divides, IsInRing}
use Rattle.gf_exponents_theory.specs.Orders.{lighter, gains, IsWeightedBelow}
use Rattle.gf_poly.specs.Polynomial.{Terms}
use Rattle.gf_poly.specs.Marking.{MarkedPolynomial, polys}
use Rattle.gf_ideal_theory.specs.Membership.{AreInVariables, AreSameIdeal}
use Rattle.gf_ideal_theory.specs.Marks.{AreMarked, IsPositive}
use Rattle.gf_ideal_theory.specs.Reduction.{IsDivisible}
use Rattle.gf_ideal_theory.specs.MonomialOrders.{MonomialOrder, below_of, IsAdmissible}
use Rattle.gf_ideal_theory.specs.Bases.{IsReducedBasis, IsReducedBasisFor, AreArranged}
use Rattle.gf_ideal_theory.specs.LawsOfBases.{AreHomogeneous}
use Rattle.gf_facets_theory.specs.Regions.{Region, IsInRegion, all_positive}
use Rattle.gf_facets_theory.specs.Facets.{IsInClosedCone}
use Rattle.gf_facets_theory.specs.MarkedBases.{IsMarkedReducedBasis, IsBasisInRegion}

-- Dickson's lemma: in each sequence of monomials of n variables one divides a later one
abbrev pub DicksonsLemma : Type 0
DicksonsLemma = (n : ℕ) (t : ℕ → Exponents) → ((i : ℕ) → IsInRing n (t i)) →
    (i : ℕ) × (j : ℕ) × (i < j) × Divides (t i) (t j)

-- ---- what they are

-- an arranged list is a marked reduced basis exactly where it is the reduced basis for some positive weight; and for which
-- weights and orders it is the reduced basis is told by its marks
pub record MarkedBasesAreReduced : Type 0 where
  pub weights : (n : ℕ) (fs : List Terms) (bs : List MarkedPolynomial) → AreInVariables n fs →
      IsMarkedReducedBasis n fs bs ↔ (AreArranged n bs × ((w : List ℕ) × IsReducedBasis n fs w bs))
  pub at_weight : (n : ℕ) (fs : List Terms) (w : List ℕ) (bs : List MarkedPolynomial) → AreInVariables n fs →
      IsMarkedReducedBasis n fs bs → IsReducedBasis n fs w bs ↔ (IsPositive n w × AreMarked (lighter w) bs)
  pub at_order : (o : MonomialOrder) (n : ℕ) (fs : List Terms) (bs : List MarkedPolynomial) → AreInVariables n fs →
      IsMarkedReducedBasis n fs bs → IsReducedBasisFor n fs (below_of o) bs ↔ AreMarked (below_of o) bs
  pub everywhere : (n : ℕ) (fs : List Terms) (bs : List MarkedPolynomial) → AreInVariables n fs →
      IsBasisInRegion n fs (all_positive n) bs ↔ IsMarkedReducedBasis n fs bs

-- generators of one ideal have the same marked reduced bases; and each of these generates the ideal
pub record OnlyIdealsCount : Type 0 where
  pub same : (n : ℕ) (fs gs : List Terms) (bs : List MarkedPolynomial) → AreSameIdeal n fs gs →
      IsMarkedReducedBasis n fs bs → IsMarkedReducedBasis n gs bs
  pub in_region : (n : ℕ) (fs gs : List Terms) (k : Region) (bs : List MarkedPolynomial) → AreSameIdeal n fs gs →
      IsBasisInRegion n fs k bs → IsBasisInRegion n gs k bs
  pub generated : (n : ℕ) (fs : List Terms) (bs : List MarkedPolynomial) → AreInVariables n fs →
      IsMarkedReducedBasis n fs bs → AreInVariables n (polys bs) × AreSameIdeal n fs (polys bs)

-- two of them are one list as soon as each mark of the first is a multiple of a mark of the second
abbrev pub BasesAreToldByMarks : Type 0
BasesAreToldByMarks = (n : ℕ) (fs : List Terms) (bs cs : List MarkedPolynomial) → IsMarkedReducedBasis n fs bs →
    IsMarkedReducedBasis n fs cs → ((b : MarkedPolynomial) → Contains bs b → IsDivisible (Contains cs) b.head) → bs ≡ cs

-- generators that are homogeneous by a grade have marked reduced bases that are so
abbrev pub HomogeneousBases : Type 0
HomogeneousBases = (n : ℕ) (grade : List ℕ) (fs : List Terms) (bs : List MarkedPolynomial) → AreInVariables n fs →
    AreHomogeneous n grade fs → IsMarkedReducedBasis n fs bs → AreHomogeneous n grade (polys bs)

-- ---- that there are some

-- for each order that suits the generators there is a reduced Gröbner basis, arranged, and one alone that this order marks;
-- a weight before lex suits all
pub record ReducedBasesExist : Type 0 where
  pub for_order : (o : MonomialOrder) (n : ℕ) (grade : List ℕ) (fs : List Terms) → IsAdmissible o n grade →
      AreInVariables n fs → AreHomogeneous n grade fs →
      (bs : List MarkedPolynomial) × IsMarkedReducedBasis n fs bs × IsReducedBasisFor n fs (below_of o) bs
  pub for_weight : (n : ℕ) (fs : List Terms) (w : List ℕ) → AreInVariables n fs →
      (bs : List MarkedPolynomial) × IsMarkedReducedBasis n fs bs × IsReducedBasisFor n fs (IsWeightedBelow w) bs
  pub one : (o : MonomialOrder) (n : ℕ) (fs : List Terms) (bs cs : List MarkedPolynomial) → AreInVariables n fs →
      IsMarkedReducedBasis n fs bs → IsMarkedReducedBasis n fs cs → AreMarked (below_of o) bs → AreMarked (below_of o) cs →
      bs ≡ cs

-- each vector of a region lies in the closed cone of one of them in the region: of the one for the vector before lex
abbrev pub WeightsHaveBases : Type 0
WeightsHaveBases = (n : ℕ) (k : Region) (fs : List Terms) (v : List ℤ) → AreInVariables n fs → IsInRegion n k v →
    (bs : List MarkedPolynomial) × IsBasisInRegion n fs k bs × AreMarked (IsWeightedBelow (gains v)) bs × IsInClosedCone v bs

-- where the generators are homogeneous by a positive grade, any whole vector lies in the closed cone of one of them
abbrev pub VectorsHaveBases : Type 0
VectorsHaveBases = (n : ℕ) (grade : List ℕ) (fs : List Terms) (v : List ℤ) → AreInVariables n fs → IsPositive n grade →
    AreHomogeneous n grade fs → length v ≡ n →
    (bs : List MarkedPolynomial) × IsMarkedReducedBasis n fs bs × IsInClosedCone v bs

-- ---- that they are finitely many

-- for each ideal a list holds exactly those of a region
abbrev pub BasesAreFinite : Type 0
BasesAreFinite = (n : ℕ) (k : Region) (fs : List Terms) → AreInVariables n fs → AreRows n k.rows →
    (all : List (List MarkedPolynomial)) × ((bs : List MarkedPolynomial) → Contains all bs ↔ IsBasisInRegion n fs k bs)
