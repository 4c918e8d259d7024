-- Vectors at which the initial ideal has no polynomial with a single term, and the test of one vector for each face.
-- A set of polynomials is a tropical basis if the initial ideal at each vector of their prevariety has no polynomial with a single term.
-- Laws: proofs/TestLaws.antt.
-- Source: Maclagan, Sturmfels, Introduction to Tropical Geometry, 2.6 and 3.2.
use Rattle.std.specs.Prelude.{◌≡◌, ◌≢◌, ◌↔◌, ℕ, List, [], ℤ, length, Contains}
use Rattle.gf_exponents_theory.specs.Exponents.{Exponents}
use Rattle.gf_poly.specs.Polynomial.{Terms, HasVariables, IsDescending}
use Rattle.gf_poly.specs.Marking.{MarkedPolynomial, polys}
use Rattle.gf_duality_theory.specs.Faces.{Rows, IsInCone, part}
use Rattle.gf_fans_theory.specs.Fans.{meet}
use Rattle.gf_patterns_theory.specs.Interiors.{IsRelativeInterior}
use Rattle.gf_facets_theory.specs.Facets.{IsInClosedCone}
use Rattle.gf_facets_theory.specs.InitialIdeals.{IsInInitialIdeal}
use Rattle.gf_facets_theory.specs.MarkedBases.{IsMarkedReducedBasis}
use Rattle.gf_initial_theory.specs.Parts.{AreInitialParts}
use Rattle.gf_saturation_theory.specs.Saturations.{IsOfOneTerm, HasOneTermMember}

-- the initial ideal at w has no polynomial with a single term
abbrev pub IsMonomialFree : ℕ → List Terms → List ℤ → Type 0
IsMonomialFree n fs w = (q : Terms) (x : Exponents) → IsInInitialIdeal n fs w q → IsOfOneTerm q x → ⊥

-- the cone of the rows d is the closed cone of bs
abbrev pub IsClosedConeBy : ℕ → List MarkedPolynomial → Rows → Type 0
IsClosedConeBy n bs d = (u : List ℤ) → length u ≡ n → IsInCone d u ↔ IsInClosedCone u bs

-- a vector of the relative interior of f, and the initial forms of bs there
pub record IsSampled (n : ℕ) (bs : List MarkedPolynomial) (f : Rows) : Type 0 where
  pub vector : List ℤ
  pub interior : IsRelativeInterior n f vector
  pub parts : List MarkedPolynomial
  pub are_parts : AreInitialParts vector bs parts

-- at some vector of the relative interior of f the ideal of the initial forms of bs has no polynomial with a single term
pub record IsFacePassed (n : ℕ) (bs : List MarkedPolynomial) (f : Rows) : Type 0 where
  pub sample : IsSampled n bs f
  pub free : HasOneTermMember n (polys sample.parts) → ⊥

-- each face of each intersection of a cone of the list with the closed cone of bs passes
pub record IsBasisPassed (n : ℕ) (cones : List Rows) (bs : List MarkedPolynomial) : Type 0 where
  pub rows : Rows
  pub closed : IsClosedConeBy n bs rows
  pub faces : (c : Rows) → Contains cones c → (zero : List (List ℤ)) → ((t : List ℤ) → Contains zero t → Contains (meet c rows).inequalities t) →
      IsFacePassed n bs (part (meet c rows) zero)

-- v is in a cone of the list and in the closed cone of a basis, and the ideal of the initial forms there has a polynomial with a single term
pub record IsFailedAt (n : ℕ) (fs : List Terms) (cones : List Rows) (v : List ℤ) : Type 0 where
  pub basis : List MarkedPolynomial
  pub is_basis : IsMarkedReducedBasis n fs basis
  pub inside : IsInClosedCone v basis
  pub cone : Rows
  pub listed : Contains cones cone
  pub in_cone : IsInCone cone v
  pub parts : List MarkedPolynomial
  pub are_parts : AreInitialParts v basis parts
  pub single : HasOneTermMember n (polys parts)

-- each polynomial of fs is in n variables, its terms descend, and it isn't zero
pub record AreKeptNonzero (n : ℕ) (fs : List Terms) : Type 0 where
  pub each : (f : Terms) → Contains fs f → HasVariables n f × IsDescending f × (f ≢ [])
