-- Membership in the ideal that polynomials generate: as a reader checks it, and as proofs use it.
-- `IsMember n fs f` is literal: whole numbers, and monomials in the ring's own n variables. `Spans fs f` is the working
-- form: fractions, and monomials in any variables. Where the generators are in the ring, f is a member exactly where
-- it is in the ring and spanned. Laws: proofs/SpanLaws.antt, proofs/MembershipLaws.antt.
-- Source: Cox, Little, O'Shea, Ideals, Varieties, and Algorithms, 1.4.
use Rattle.std.specs.Prelude.{◌≡◌, ◌≢◌, ℕ, ◌<◌, ℤ, pos, List, [], ◌∷◌, ◌++◌, Contains}
use Rattle.gf_frac.specs.Fraction.{Fraction, whole, ◌*ℚ◌, zero_ℚ}
use Rattle.gf_exponents_theory.specs.Exponents.{Exponents, IsInRing}
use Rattle.gf_poly.specs.Polynomial.{Terms, coefficient, SamePolynomial, times}
use Rattle.gf_poly.specs.Marking.{Each}

-- ---- the monomials of a polynomial

-- f has a term at the monomial x: its coefficient there isn't 0
abbrev pub HasMonomial : Terms → Exponents → Type 0
HasMonomial f x = coefficient f x ≢ zero_ℚ

-- f is a polynomial in the first n variables
abbrev pub IsInVariables : ℕ → Terms → Type 0
IsInVariables n f = (x : Exponents) → HasMonomial f x → IsInRing n x

-- each of the polynomials is one in the first n variables
abbrev pub AreInVariables : ℕ → List Terms → Type 0
AreInVariables n fs = (f : Terms) → Contains fs f → IsInVariables n f

-- ---- members, in whole numbers

-- a polynomial with integer coefficients: pairs of a coefficient and a monomial
abbrev pub IntegerTerms : Type 0
IntegerTerms = List (ℤ × Exponents)

-- h times f
abbrev pub product : IntegerTerms → Terms → Terms
product [] f = []
product (t ∷ h) f = times (whole t.0) t.1 f ++ product h f

-- the sum of the h_i times f_i; a multiplier that is missing is zero
abbrev pub combination : List IntegerTerms → List Terms → Terms
combination [] fs = []
combination (h ∷ hs) [] = []
combination (h ∷ hs) (f ∷ fs) = product h f ++ combination hs fs

-- each monomial of h is one in the first n variables
abbrev pub IsMultiplier : ℕ → IntegerTerms → Type 0
IsMultiplier n h = Each (λ (t : ℤ × Exponents). IsInRing n t.1) h

-- f is in the ideal of fs in n variables: some d f, d at least 1, is the sum of the h_i f_i
pub record IsMember (n : ℕ) (fs : List Terms) (f : Terms) : Type 0 where
  pub factor : ℕ
  pub positive : 0 < factor
  pub multipliers : List IntegerTerms
  pub in_ring : Each (IsMultiplier n) multipliers
  pub equation : (x : Exponents) → whole (pos factor) *ℚ coefficient f x ≡ coefficient (combination multipliers fs) x

-- the two generate the same ideal
pub record AreSameIdeal (n : ℕ) (fs gs : List Terms) : Type 0 where
  pub inside : (f : Terms) → IsMember n fs f → IsMember n gs f
  pub back : (f : Terms) → IsMember n gs f → IsMember n fs f

-- ---- the working form

-- f is a sum of multiples of members of fs by fractions times monomials
pub data Spans (fs : List Terms) : Terms → Type 0 where
  none : (f : Terms) → SamePolynomial f [] → Spans fs f
  more : (c : Fraction) (u : Exponents) (p f g : Terms) → Contains fs p → Spans fs g →
      SamePolynomial f (times c u p ++ g) → Spans fs f
