-- The saturation of an ideal by a monomial and by the product of the variables, Rabinowitsch's trick, and elimination of the
-- last variable. Laws: proofs/SaturationLaws.antt, proofs/EliminationLaws.antt.
-- Source: Cox, Little, O'Shea, Ideals, Varieties, and Algorithms, 3.1 (elimination), 4.2 (the trick), 4.4 (saturation).
use Rattle.std.specs.Prelude.{◌≡◌, ◌⊎◌, ℕ, zero, suc, true, List, [], ◌∷◌, Contains}
use Rattle.gf_frac.specs.Fraction.{neg_ℚ, one_ℚ}
use Rattle.gf_exponents_theory.specs.Exponents.{Exponents, same, plus}
use Rattle.gf_poly.specs.Polynomial.{Terms, SamePolynomial, times}
use Rattle.gf_poly.specs.Marking.{MarkedPolynomial}
use Rattle.gf_ideal_theory.specs.Membership.{HasMonomial, IsInVariables, IsMember}

-- ---- saturations

-- u to the power k
abbrev pub powered : ℕ → Exponents → Exponents
powered zero u = []
powered (suc k) u = plus u (powered k u)

-- f is in the saturation by u of the ideal of fs in n variables: some power of u times f is in the ideal
pub record IsSaturatedBy (n : ℕ) (fs : List Terms) (u : Exponents) (f : Terms) : Type 0 where
  pub power : ℕ
  pub member : IsMember n fs (times one_ℚ (powered power u) f)

-- the product of the first n variables, to the power k
abbrev pub product_power : ℕ → ℕ → Exponents
product_power zero k = []
product_power (suc n) k = k ∷ product_power n k

-- f is in the saturation by the product of the variables: some power of the product times f is in the ideal
pub record IsSaturated (n : ℕ) (fs : List Terms) (f : Terms) : Type 0 where
  pub power : ℕ
  pub member : IsMember n fs (times one_ℚ (product_power n power) f)

-- ---- Rabinowitsch's trick

-- the variable after the first n
abbrev pub next_variable : ℕ → Exponents
next_variable zero = 1 ∷ []
next_variable (suc n) = 0 ∷ next_variable n

-- u times the variable after the first n, less 1
abbrev pub rabinowitsch : ℕ → Exponents → Terms
rabinowitsch n u = record { coef = one_ℚ; mono = plus u (next_variable n) } ∷ record { coef = neg_ℚ one_ℚ; mono = [] } ∷ []

-- gs has, as polynomials, exactly those of fs and that one
pub record AreExtended (n : ℕ) (u : Exponents) (fs gs : List Terms) : Type 0 where
  pub each : (f : Terms) → Contains fs f → (g : Terms) × Contains gs g × SamePolynomial f g
  pub trick : (g : Terms) × Contains gs g × SamePolynomial (rabinowitsch n u) g
  pub only : (g : Terms) → Contains gs g → ((f : Terms) × Contains fs f × SamePolynomial f g) ⊎ SamePolynomial (rabinowitsch n u) g

-- ---- elimination

-- the weight 1 of the variable after the first n, and 0 of these
abbrev pub last_weight : ℕ → List ℕ
last_weight zero = 1 ∷ []
last_weight (suc n) = 0 ∷ last_weight n

-- hs has, as polynomials, exactly the members of bs that are in the first n variables
pub record AreLeftOver (n : ℕ) (bs : List MarkedPolynomial) (hs : List Terms) : Type 0 where
  pub each : (b : MarkedPolynomial) → Contains bs b → IsInVariables n b.poly → (h : Terms) × Contains hs h × SamePolynomial b.poly h
  pub only : (h : Terms) → Contains hs h → (b : MarkedPolynomial) × Contains bs b × IsInVariables n b.poly × SamePolynomial b.poly h

-- ---- polynomials of one term

-- x is the one monomial that f has
pub record IsOfOneTerm (f : Terms) (x : Exponents) : Type 0 where
  pub there : HasMonomial f x
  pub alone : (y : Exponents) → HasMonomial f y → same y x ≡ true

-- the ideal of fs has a polynomial of one term
abbrev pub HasOneTermMember : ℕ → List Terms → Type 0
HasOneTermMember n fs = (f : Terms) × (x : Exponents) × IsMember n fs f × IsOfOneTerm f x

-- the constant 1
abbrev pub one_polynomial : Terms
one_polynomial = record { coef = one_ℚ; mono = [] } ∷ []
