-- Polynomials as lists of terms, seen by the coefficient at each monomial.
-- A list may hold like terms, zeros, and terms in any order: it stands for the sum of its terms. So the sum of two
-- polynomials is `++`, and two lists stand for the same polynomial where they have the same coefficients.
-- Laws: proofs/PolynomialLaws.antt. Source: Cox, Little, O'Shea, Ideals, Varieties, and Algorithms, 1.1.
use Rattle.std.specs.Prelude.{◌≡◌, ◌≢◌, if◌then◌else◌, ℕ, List, [], ◌∷◌, map, length}
use Rattle.std.specs.declared.cmp.Ordering.TheVariants.{Greater}
use Rattle.gf_frac.specs.Fraction.{Fraction, ◌+ℚ◌, ◌*ℚ◌, zero_ℚ}
use Rattle.gf_exponents_theory.specs.Exponents.{Exponents, same, plus}
use Rattle.gf_exponents_theory.specs.Orders.{deglex}
use Rattle.gf_poly.specs.declared.Term.{Term}

-- a sum of terms
abbrev pub Terms : Type 0
Terms = List Term

-- the coefficient at a monomial: the sum of those of its terms
abbrev pub coefficient : Terms → Exponents → Fraction
coefficient [] e = zero_ℚ
coefficient (t ∷ f) e = (if same e t.mono then t.coef else zero_ℚ) +ℚ coefficient f e

-- the same coefficient at each monomial
abbrev pub SamePolynomial : Terms → Terms → Type 0
SamePolynomial f g = (e : Exponents) → coefficient f e ≡ coefficient g e

-- c x^u times a term
abbrev pub times_term : Fraction → Exponents → Term → Term
times_term c u t = record { coef = c *ℚ t.coef; mono = plus u t.mono }

-- c x^u times a polynomial
abbrev pub times : Fraction → Exponents → Terms → Terms
times c u f = map (times_term c u) f

-- ---- the form that the program keeps

-- each monomial of f has n exponents
abbrev pub HasVariables : ℕ → Terms → Type 0
HasVariables n [] = Unit {0}
HasVariables n (t ∷ f) = (length t.mono ≡ n) × HasVariables n f

-- x is greater than each monomial of f, by deglex
abbrev pub IsAbove : Exponents → Terms → Type 0
IsAbove x [] = Unit {0}
IsAbove x (t ∷ f) = (deglex x t.mono ≡ Greater) × IsAbove x f

-- nonzero coefficients, at monomials that descend in deglex
abbrev pub IsDescending : Terms → Type 0
IsDescending [] = Unit {0}
IsDescending (t ∷ f) = (t.coef ≢ zero_ℚ) × IsAbove t.mono f × IsDescending f

-- h has n variables wherever f has
pub record KeepsVariables (f h : Terms) : Type 0 where
  pub at : (n : ℕ) → HasVariables n f → HasVariables n h

-- h has n variables wherever f and g have
pub record KeepsBothVariables (f g h : Terms) : Type 0 where
  pub at : (n : ℕ) → HasVariables n f → HasVariables n g → HasVariables n h
