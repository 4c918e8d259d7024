-- Pure difference binomials: differences of two monomials without coefficients, each of which may be missing. So zero, a
-- monomial, the negative of one, and the difference of two are such. All of it is said by coefficients.
-- Laws: proofs/BinomialLaws.antt. Source: Eisenbud, Sturmfels, Binomial ideals, 1.
use Rattle.std.specs.Prelude.{◌≡◌, if◌then◌else◌, List, Contains, Option, Some, None}
use Rattle.gf_frac.specs.Fraction.{Fraction, ◌+ℚ◌, neg_ℚ, zero_ℚ, one_ℚ}
use Rattle.gf_exponents_theory.specs.Exponents.{Exponents, same}
use Rattle.gf_poly.specs.Polynomial.{Terms, coefficient}
use Rattle.gf_poly.specs.Marking.{MarkedPolynomial}

-- the coefficient, at the monomial e, of a monomial that may be missing: 1 where it is e, else 0
abbrev pub indicator : Option Exponents → Exponents → Fraction
indicator None e = zero_ℚ
indicator (Some x) e = if same e x then one_ℚ else zero_ℚ

-- f is p - q
pub record IsBinomialOf (p q : Option Exponents) (f : Terms) : Type 0 where
  pub equation : (e : Exponents) → coefficient f e ≡ indicator p e +ℚ neg_ℚ (indicator q e)

-- f is such a difference
pub record IsBinomial (f : Terms) : Type 0 where
  pub first : Option Exponents
  pub second : Option Exponents
  pub binomial : IsBinomialOf first second f

-- so is each
abbrev pub AreBinomials : List Terms → Type 0
AreBinomials fs = (f : Terms) → Contains fs f → IsBinomial f

-- b is its marked monomial, less another one that may be missing
pub record IsMarkedBinomial (b : MarkedPolynomial) : Type 0 where
  pub tail : Option Exponents
  pub binomial : IsBinomialOf (Some b.head) tail b.poly

-- so is each
abbrev pub AreMarkedBinomials : (MarkedPolynomial → Type 0) → Type 0
AreMarkedBinomials by = (b : MarkedPolynomial) → by b → IsMarkedBinomial b
