-- Saturations by division: one basis for each variable that is chosen, and members without all that their terms share.
-- Laws: proofs/GradedLaws.antt. Source: Sturmfels, Gröbner Bases and Convex Polytopes, 12.
use Rattle.std.specs.Prelude.{◌≡◌, ◌↔◌, ℕ, ◌<◌, ◌≤◌, List, [], ◌∷◌, Contains, All, ℤ, pos, ◌≤ℤ◌, length, replicate}
use Rattle.gf_frac.specs.Fraction.{one_ℚ}
use Rattle.gf_exponents_theory.specs.Exponents.{Exponents, entry, join}
use Rattle.gf_exponents_theory.specs.Orders.{gains}
use Rattle.gf_exponents_theory.specs.SixOrders.{MonomialOrder}
use Rattle.gf_poly.specs.declared.Term.{Term}
use Rattle.gf_poly.specs.Polynomial.{Terms, HasVariables}
use Rattle.gf_poly.specs.Marking.{MarkedPolynomial, MarkedPolynomials}
use Rattle.gf_ideal_theory.specs.Membership.{IsMember}
use Rattle.gf_buchberger.specs.Tasks.{HaveRingVariables}
use Rattle.gf_buchberger.specs.Bases.{IsArrangedBasis}
use Rattle.gf_saturation_theory.specs.Saturations.{IsSaturatedBy, IsSaturated}
use Rattle.gf_dividing.specs.declared.Factors.{Factors}
use Rattle.gf_dividing.specs.Dividing.{IsStripped}

-- ---- which variables are enough

-- each variable that occurs in x occurs in y
abbrev pub AreInside : Exponents → Exponents → Type 0
AreInside x y = (i : ℕ) → entry y i ≡ 0 → entry x i ≡ 0

-- y is x; or f has two terms, the variables of one of which are in x, and y is x with those of the other
pub data IsFollowed (f : Terms) (x y : Exponents) : Type 0 where
  kept : y ≡ x → IsFollowed f x y
  first : (t s : Term) → f ≡ t ∷ s ∷ [] → AreInside s.mono x → y ≡ join x t.mono → IsFollowed f x y
  second : (t s : Term) → f ≡ t ∷ s ∷ [] → AreInside t.mono x → y ≡ join x s.mono → IsFollowed f x y

-- what is in the saturation by y is in that by x
abbrev pub IsEnoughFor : ℕ → List Terms → Exponents → Exponents → Type 0
IsEnoughFor n fs y x = (f : Terms) → IsSaturatedBy n fs y f → IsSaturatedBy n fs x f

-- saturating by v, in which each of n variables occurs once or not, is saturating by all
pub record IsChoice (n : ℕ) (fs : List Terms) (v : Exponents) : Type 0 where
  pub long : length v ≡ n
  pub once : (k : ℕ) → entry v k ≤ 1
  pub enough : (f : Terms) → IsSaturated n fs f → IsSaturatedBy n fs v f

-- ---- one basis, and division

-- the order is by positive weights of n variables, then revlex
pub record IsByWeights (n : ℕ) (o : MonomialOrder) : Type 0 where
  pub weights : List ℤ
  pub positive : All (λ w. pos 1 ≤ℤ w) weights
  pub long : length weights ≡ n
  pub is : o ≡ MonomialOrder.weighted_revlex (gains weights)

-- s is the reduced basis of fs by such an order
pub record IsWeightedBasis (n : ℕ) (fs : List Terms) (s : MarkedPolynomials) : Type 0 where
  pub order : MonomialOrder
  pub weighted : IsByWeights n order
  pub basis : IsArrangedBasis order n fs s

-- h is b without all that its terms share, which is at least as much of the variable at index k as the mark has
pub record IsDividedMember (n k : ℕ) (b : MarkedPolynomial) (h : Terms) : Type 0 where
  pub factors : Factors
  pub stripped : IsStripped n b.poly factors
  pub enough : entry b.head k ≤ entry factors.by k
  pub is : h ≡ factors.rest

-- what is asked of members to be divided: each isn't zero, and is in n variables
abbrev pub AreToDivide : ℕ → List MarkedPolynomial → Type 0
AreToDivide n bs = (b : MarkedPolynomial) → Contains bs b → (0 < length b.poly) × HasVariables n b.poly × (length b.head ≡ n)

-- the ones are the others so divided, one after another
abbrev pub AreDividedMembers : ℕ → ℕ → List MarkedPolynomial → List Terms → Type 0
AreDividedMembers n k [] [] = Unit {0}
AreDividedMembers n k [] (h ∷ hs) = ⊥
AreDividedMembers n k (b ∷ bs) [] = ⊥
AreDividedMembers n k (b ∷ bs) (h ∷ hs) = IsDividedMember n k b h × AreDividedMembers n k bs hs

-- hs are the members, so divided, of the reduced basis of gs by such an order
pub record IsDividedStep (n k : ℕ) (gs hs : List Terms) : Type 0 where
  pub basis : MarkedPolynomials
  pub weighted : IsWeightedBasis n gs basis
  pub divided : AreDividedMembers n k basis.items hs

-- ---- at the end

-- the constant 1 alone, in n variables
abbrev pub one_list : ℕ → List Terms
one_list n = (record { coef = one_ℚ; mono = replicate n 0 } ∷ []) ∷ []

-- hs are in n variables, and generate the saturation of the ideal of fs by the product of them
pub record GenerateSaturation (n : ℕ) (fs hs : List Terms) : Type 0 where
  pub ring : HaveRingVariables n hs
  pub members : (f : Terms) → IsMember n hs f ↔ IsSaturated n fs f
