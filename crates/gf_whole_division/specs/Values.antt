-- Terms with whole coefficients, as the polynomials that they stand for, and polynomials up to a factor.
-- Laws: proofs/ValueLaws.antt.
use Rattle.std.specs.Prelude.{◌≡◌, ◌≢◌, ℤ, pos, List, map, false}
use Rattle.gf_frac.specs.Fraction.{Fraction, whole, zero_ℚ}
use Rattle.gf_exponents_theory.specs.Exponents.{Exponents, same}
use Rattle.gf_poly.specs.declared.Term.{Term}
use Rattle.gf_poly.specs.Polynomial.{Terms}
use Rattle.gf_poly.specs.Products.{IsScaled}
use Rattle.gf_poly.specs.Marking.{Each}
use Rattle.gf_whole_division.specs.declared.terms.WholeTerm.{WholeTerm}

-- the term that it stands for
abbrev pub term_value : WholeTerm → Term
term_value t = record { coef = whole t.kept.value.coef; mono = t.kept.value.mono }

-- the polynomial
abbrev pub whole_terms : List WholeTerm → Terms
whole_terms f = map term_value f

-- no term has the monomial x
abbrev pub HasNone : Exponents → Terms → Type 0
HasNone x f = Each (λ (t : Term). same x t.mono ≡ false) f

-- h is a multiple of f by a factor that isn't zero
pub record IsMultipleOf (f h : Terms) : Type 0 where
  pub factor : Fraction
  pub nonzero : factor ≢ zero_ℚ
  pub scaled : IsScaled factor f h

-- the terms are those of f times the whole number k, which isn't zero
pub record IsWholeMultiple (k : ℤ) (h : List WholeTerm) (f : Terms) : Type 0 where
  pub nonzero : k ≢ pos 0
  pub scaled : IsScaled (whole k) f (whole_terms h)
