-- The theorems on saturations that functions of this crate name.
use Rattle.std.specs.Prelude.{◌≡◌, ◌↔◌, ℕ, zero, suc, ◌<◌, ◌≤◌, true, List, [], Contains}
use Rattle.gf_exponents_theory.specs.Exponents.{Exponents, entry, same, plus, IsInRing}
use Rattle.gf_exponents_theory.specs.Orders.{IsDeglexBelow, IsWeightedBelow}
use Rattle.gf_poly.specs.Polynomial.{Terms}
use Rattle.gf_poly.specs.Marking.{MarkedPolynomial, polys}
use Rattle.gf_ideal_theory.specs.Membership.{IsInVariables, AreInVariables, IsMember}
use Rattle.gf_ideal_theory.specs.Marks.{IsMarked}
use Rattle.gf_ideal_theory.specs.Bases.{IsReducedBasisFor}
use Rattle.gf_saturation_theory.specs.Saturations.{IsSaturatedBy, IsSaturated, product_power, AreExtended, next_variable, last_weight, AreLeftOver}
use Rattle.gf_saturation_theory.specs.Saturations.{HasOneTermMember, one_polynomial}

-- a polynomial in n variables is in the ideal of the extended list exactly where it is in the saturation by u
pub record SaturationsAreEliminations : Type 0 where
  pub variables : (n : ℕ) (fs : List Terms) (u : Exponents) (f : Terms) → AreInVariables n fs → IsSaturatedBy n fs u f → IsInVariables n f
  pub extended : (n : ℕ) (u : Exponents) (fs gs : List Terms) → IsInRing n u → AreInVariables n fs → AreExtended n u fs gs → AreInVariables (suc n) gs
  pub to : (n : ℕ) (u : Exponents) (fs gs : List Terms) (f : Terms) → IsInRing n u → AreInVariables n fs → AreExtended n u fs gs → IsSaturatedBy n fs u f →
      IsMember (suc n) gs f
  pub from : (n : ℕ) (u : Exponents) (fs gs : List Terms) (f : Terms) → IsInRing n u → AreInVariables n fs → AreExtended n u fs gs → IsInVariables n f →
      IsMember (suc n) gs f → IsSaturatedBy n fs u f

-- saturating by v and then by u is saturating by their product; the saturation by the product of the variables
pub record SaturationsCompose : Type 0 where
  pub twice : (n : ℕ) (u v : Exponents) (fs gs : List Terms) → IsInRing n u → IsInRing n v → ((f : Terms) → IsMember n gs f ↔ IsSaturatedBy n fs v f) →
      (f : Terms) → IsSaturatedBy n gs u f ↔ IsSaturatedBy n fs (plus u v) f
  pub same : (n : ℕ) (u v : Exponents) (fs : List Terms) (f : Terms) → same u v ≡ true → IsSaturatedBy n fs u f → IsSaturatedBy n fs v f
  pub product : (n : ℕ) (fs : List Terms) (f : Terms) → IsSaturated n fs f ↔ IsSaturatedBy n fs (product_power n 1) f

-- by one variable after another: where the members of gs are the saturation by the first k variables, saturating these by the
-- next variable is the saturation by one more; by none it is the ideal, by all the saturation. As soon as 1 is in it, all
-- polynomials in n variables are in the saturation
pub record VariablesOneByOne : Type 0 where
  pub none : (n : ℕ) (fs : List Terms) (f : Terms) → IsSaturatedBy n fs (product_power zero 1) f ↔ IsMember n fs f
  pub next : (n k : ℕ) (fs gs : List Terms) → k < n → ((f : Terms) → IsMember n gs f ↔ IsSaturatedBy n fs (product_power k 1) f) →
      (f : Terms) → IsSaturatedBy n gs (next_variable k) f ↔ IsSaturatedBy n fs (product_power (suc k) 1) f
  pub all : (n : ℕ) (fs : List Terms) (f : Terms) → IsSaturatedBy n fs (product_power n 1) f ↔ IsSaturated n fs f
  pub one : (n k : ℕ) (fs : List Terms) (f : Terms) → k ≤ n → AreInVariables n fs → IsInVariables n f →
      IsSaturatedBy n fs (product_power k 1) one_polynomial → IsSaturated n fs f

-- for the weight of the last variable before lex: a member without it at its mark is one without it; and these generate what
-- the ideal has without it
pub record BasesEliminate : Type 0 where
  pub free : (n : ℕ) (b : MarkedPolynomial) → IsInVariables (suc n) b.poly → IsMarked (IsWeightedBelow (last_weight n)) b → entry b.head n ≡ 0 →
      IsInVariables n b.poly
  pub bound : (n : ℕ) (b : MarkedPolynomial) → IsMarked (IsWeightedBelow (last_weight n)) b → IsInVariables n b.poly → entry b.head n ≡ 0
  pub generated : (n : ℕ) (gs hs : List Terms) (bs : List MarkedPolynomial) (f : Terms) → AreInVariables (suc n) gs →
      IsReducedBasisFor (suc n) gs (IsWeightedBelow (last_weight n)) bs → AreLeftOver n bs hs →
      IsMember n hs f ↔ (IsInVariables n f × IsMember (suc n) gs f)

-- what is left over of the basis generates the saturation by u; so does the basis by deglex of it
pub record SaturationsAreWorkedOut : Type 0 where
  pub left_over : (n : ℕ) (u : Exponents) (fs gs hs : List Terms) (bs : List MarkedPolynomial) (f : Terms) → IsInRing n u → AreInVariables n fs →
      AreExtended n u fs gs → IsReducedBasisFor (suc n) gs (IsWeightedBelow (last_weight n)) bs → AreLeftOver n bs hs →
      IsMember n hs f ↔ IsSaturatedBy n fs u f
  pub basis : (n : ℕ) (u : Exponents) (fs gs hs : List Terms) (bs cs : List MarkedPolynomial) (f : Terms) → IsInRing n u → AreInVariables n fs →
      AreExtended n u fs gs → IsReducedBasisFor (suc n) gs (IsWeightedBelow (last_weight n)) bs → AreLeftOver n bs hs →
      IsReducedBasisFor n hs IsDeglexBelow cs → IsMember n (polys cs) f ↔ IsSaturatedBy n fs u f

-- an ideal has a polynomial of one term exactly where 1 is in its saturation; and 1 is in an ideal exactly where a member of its
-- reduced basis by deglex has the mark 1
pub record MonomialsAreTold : Type 0 where
  pub one : (n : ℕ) (fs : List Terms) → AreInVariables n fs → HasOneTermMember n fs ↔ IsSaturated n fs one_polynomial
  pub told : (n : ℕ) (hs : List Terms) (cs : List MarkedPolynomial) → AreInVariables n hs → IsReducedBasisFor n hs IsDeglexBelow cs →
      IsMember n hs one_polynomial ↔ ((c : MarkedPolynomial) × Contains cs c × (same c.head [] ≡ true))
