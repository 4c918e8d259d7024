-- The theorems on quotients that functions of this crate name.
use Rattle.std.specs.Prelude.{◌≡◌, ◌↔◌, ℕ, suc, ◌<◌, ◌≤◌, List, [], Contains}
use Rattle.gf_frac.specs.Fraction.{one_ℚ}
use Rattle.gf_exponents_theory.specs.Exponents.{Exponents, entry, plus, IsInRing}
use Rattle.gf_exponents_theory.specs.Orders.{IsRevlexBelow, IsWeightedRevlexBelow}
use Rattle.gf_poly.specs.Polynomial.{Terms, SamePolynomial, times}
use Rattle.gf_poly.specs.Marking.{MarkedPolynomial, polys}
use Rattle.gf_ideal_theory.specs.Membership.{AreInVariables, IsMember}
use Rattle.gf_ideal_theory.specs.Marks.{IsMarked, IsPositive}
use Rattle.gf_ideal_theory.specs.MonomialOrders.{IsHomogeneous}
use Rattle.gf_ideal_theory.specs.Bases.{IsBasis}
use Rattle.gf_binomials_theory.specs.Binomials.{IsBinomial}
use Rattle.gf_saturation_theory.specs.Saturations.{product_power, IsSaturatedBy, IsSaturated, next_variable}
use Rattle.gf_quotients_theory.specs.Quotients.{HasLeastAtMark, AreQuotients, AreStripped, lowered}
use Rattle.gf_quotients_theory.specs.Ways.{difference, IsOnTheWay}

-- the quotients of a basis generate the saturation by the variable, and are a basis of it
pub record QuotientsSaturate : Type 0 where
  pub members : (n k : ℕ) (fs : List Terms) (bs ds : List MarkedPolynomial) (f : Terms) → k < n → AreInVariables n fs → IsBasis n fs bs →
      AreQuotients k bs ds → IsMember n (polys ds) f ↔ IsSaturatedBy n fs (next_variable k) f
  pub basis : (n k : ℕ) (fs : List Terms) (bs ds : List MarkedPolynomial) → k < n → AreInVariables n fs → IsBasis n fs bs →
      AreQuotients k bs ds → IsBasis n (polys ds) ds

-- marks of homogeneous polynomials have least of the last variable by revlex, and of the variable at index k by a weight that is twice the
-- grade less 1 there
pub record MarksHaveLeast : Type 0 where
  pub last : (k : ℕ) (grade : List ℕ) (b : MarkedPolynomial) → IsHomogeneous (suc k) grade b.poly → IsMarked IsRevlexBelow b → HasLeastAtMark k b
  pub lowered : (n k : ℕ) (grade : List ℕ) (b : MarkedPolynomial) → k < n → IsPositive n grade → IsHomogeneous n grade b.poly →
      IsMarked (IsWeightedRevlexBelow (lowered k grade)) b → HasLeastAtMark k b

-- at first the product of all variables is left; generators may be divided by any monomials; a variable by which the list is saturated isn't left;
-- nor is one in a monomial a, where the ideal has a - b and b is in what is left besides; where nothing is left the saturation is reached
pub record WaysAreKept : Type 0 where
  pub start : (n : ℕ) (fs : List Terms) → AreInVariables n fs → IsOnTheWay n fs fs (product_power n 1)
  pub divided : (n : ℕ) (fs gs hs : List Terms) (v : Exponents) → AreInVariables n fs → IsOnTheWay n fs gs v → AreInVariables n hs →
      ((h : Terms) → Contains hs h → IsSaturated n fs h) → ((g : Terms) → Contains gs g → IsMember n hs g) → IsOnTheWay n fs hs v
  pub variable : (n k : ℕ) (fs gs hs : List Terms) (v : Exponents) → k < n → IsInRing n v → AreInVariables n fs →
      IsOnTheWay n fs gs (plus v (next_variable k)) →
      AreInVariables n hs → ((f : Terms) → IsMember n hs f ↔ IsSaturatedBy n gs (next_variable k) f) → IsOnTheWay n fs hs v
  pub spared : (n k : ℕ) (fs gs : List Terms) (a b v : Exponents) → k < n → IsInRing n v → IsOnTheWay n fs gs (plus v (next_variable k)) →
      IsMember n gs (difference a b) → 1 ≤ entry a k → ((i : ℕ) → entry v i ≡ 0 → entry b i ≡ 0) → IsOnTheWay n fs gs v
  pub ended : (n : ℕ) (fs gs : List Terms) (f : Terms) → IsOnTheWay n fs gs [] → IsMember n gs f ↔ IsSaturated n fs f

-- what a multiple by a monomial of is a difference of two monomials is one itself: so divided members are, and no number of a run on them leaves
-- its range
abbrev pub BinomialsMayBeDivided : Type 0
BinomialsMayBeDivided = (u : Exponents) (f g : Terms) → SamePolynomial f (times one_ℚ u g) → IsBinomial f → IsBinomial g

-- one step: where the members of a basis, marked as may be, are divided by monomials that have as much of the variable as their marks, that
-- variable isn't left
abbrev pub StepsSaturate : Type 0
StepsSaturate = (n k : ℕ) (fs gs hs : List Terms) (bs : List MarkedPolynomial) (v : Exponents) → k < n → IsInRing n v → AreInVariables n fs →
    IsOnTheWay n fs gs (plus v (next_variable k)) → IsBasis n gs bs → AreStripped n k bs hs → IsOnTheWay n fs hs v

-- what of a multiple by a monomial is in the saturation is in it
abbrev pub SaturationsMayBeDivided : Type 0
SaturationsMayBeDivided = (n : ℕ) (fs : List Terms) (u : Exponents) (f g : Terms) → AreInVariables n fs → IsInRing n u → SamePolynomial f (times one_ℚ u g) →
    IsSaturated n fs f → IsSaturated n fs g

-- the saturation is an ideal; of two differences of monomials in it the sum as vectors is in it: (c + a) - (b + d) of a - b and c - d
pub record SaturationsAreIdeals : Type 0 where
  pub combined : (n : ℕ) (fs hs : List Terms) (f : Terms) → AreInVariables n fs → AreInVariables n hs → ((h : Terms) → Contains hs h → IsSaturated n fs h) →
      IsMember n hs f → IsSaturated n fs f
  pub vectors : (n : ℕ) (fs : List Terms) (a b c d : Exponents) → AreInVariables n fs → IsInRing n a → IsInRing n b → IsInRing n c → IsInRing n d →
      IsSaturated n fs (difference a b) → IsSaturated n fs (difference c d) → IsSaturated n fs (difference (plus c a) (plus b d))
