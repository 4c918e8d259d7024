-- The theorems on tropical bases that functions of this crate name.
use Rattle.std.specs.Prelude.{◌≡◌, ◌↔◌, ℕ, List, ℤ, map, length, Contains}
use Rattle.gf_exponents_theory.specs.Exponents.{Exponents}
use Rattle.gf_poly.specs.Polynomial.{Terms}
use Rattle.gf_poly.specs.Marking.{MarkedPolynomial, polys}
use Rattle.gf_ideal_theory.specs.Membership.{AreInVariables}
use Rattle.gf_ideal_theory.specs.Marks.{IsPositive}
use Rattle.gf_ideal_theory.specs.LawsOfBases.{AreHomogeneous}
use Rattle.gf_duality_theory.specs.Faces.{Rows, IsInCone}
use Rattle.gf_patterns_theory.specs.Interiors.{IsRelativeInterior}
use Rattle.gf_patterns_theory.specs.Patterns.{points, IsOnPrevariety, ArePatternCones}
use Rattle.gf_facets_theory.specs.Facets.{IsInClosedCone}
use Rattle.gf_facets_theory.specs.MarkedBases.{IsMarkedReduced, IsMarkedReducedBasis}
use Rattle.gf_initial_theory.specs.Parts.{AreInitialParts}
use Rattle.gf_saturation_theory.specs.Saturations.{IsOfOneTerm, HasOneTermMember}
use Rattle.gf_tropical_basis_test.specs.Tests.{IsMonomialFree, AreKeptNonzero, IsBasisPassed, IsFailedAt}

-- the initial forms of a basis at a vector of its closed cone decide whether the initial ideal there has a polynomial with a single term. An
-- initial form with a single term shows it at once. The members have the same initial forms at all vectors of the relative interior of a cone
-- inside the closed cone
pub record MonomialsDecide : Type 0 where
  pub by_forms : (n : ℕ) (fs : List Terms) (w : List ℤ) (bs ps : List MarkedPolynomial) → AreInVariables n fs → IsMarkedReduced n fs bs →
      IsInClosedCone w bs → AreInitialParts w bs ps → IsMonomialFree n fs w ↔ (HasOneTermMember n (polys ps) → ⊥)
  pub at_once : (n : ℕ) (ps : List MarkedPolynomial) (p : MarkedPolynomial) (x : Exponents) → Contains ps p → IsOfOneTerm p.poly x →
      HasOneTermMember n (polys ps)
  pub one_for_all : (n : ℕ) (fs : List Terms) (bs ps : List MarkedPolynomial) (f : Rows) (v w : List ℤ) → IsMarkedReduced n fs bs →
      ((u : List ℤ) → length u ≡ n → IsInCone f u → IsInClosedCone u bs) → IsRelativeInterior n f v → IsRelativeInterior n f w →
      AreInitialParts v bs ps → AreInitialParts w bs ps

-- the generators fs are homogeneous by a positive grade, and the faces of the cones form their prevariety
pub record IsBasisTest (n : ℕ) (grade : List ℕ) (fs : List Terms) (cones : List Rows) : Type 0 where
  pub variables : AreInVariables n fs
  pub positive : IsPositive n grade
  pub homogeneous : AreHomogeneous n grade fs
  pub cones_are : ArePatternCones IsOnPrevariety n (map points fs) cones

-- if all bases pass, the initial ideal at no vector of the prevariety has a polynomial with a single term. A vector that fails is on the
-- prevariety, and the initial ideal there has one
pub record TropicalBasesAreTested : Type 0 where
  pub yes : (n : ℕ) (grade : List ℕ) (fs : List Terms) (cones : List Rows) → IsBasisTest n grade fs cones →
      ((bs : List MarkedPolynomial) → IsMarkedReducedBasis n fs bs → IsBasisPassed n cones bs) →
      (w : List ℤ) → length w ≡ n → IsOnPrevariety (map points fs) w → IsMonomialFree n fs w
  pub no : (n : ℕ) (grade : List ℕ) (fs : List Terms) (cones : List Rows) (v : List ℤ) → IsBasisTest n grade fs cones → length v ≡ n →
      IsFailedAt n fs cones v → IsOnPrevariety (map points fs) v × (IsMonomialFree n fs v → ⊥)

-- if the initial ideal at w has no polynomial with a single term, w is on the prevariety of the generators, none of which is zero. So the
-- prevariety of a tropical basis is the tropical variety
abbrev pub TropicalVarietiesAreInside : Type 0
TropicalVarietiesAreInside = (n : ℕ) (fs : List Terms) (w : List ℤ) → AreKeptNonzero n fs → IsMonomialFree n fs w → IsOnPrevariety (map points fs) w
