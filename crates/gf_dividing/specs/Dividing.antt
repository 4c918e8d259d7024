-- Polynomials divided by a monomial that divides all of their terms. Laws: proofs/DividingLaws.antt.
use Rattle.std.specs.Prelude.{◌≡◌, ℕ, ◌≤◌, length}
use Rattle.gf_frac.specs.Fraction.{one_ℚ}
use Rattle.gf_exponents_theory.specs.Exponents.{Exponents, entry, minus}
use Rattle.gf_poly.specs.declared.Term.{Term}
use Rattle.gf_poly.specs.Polynomial.{Terms, HasVariables, times}
use Rattle.gf_poly.specs.Marking.{Each}
use Rattle.gf_dividing.specs.declared.Factors.{Factors}

-- u divides each monomial of f, as it is kept
abbrev pub DividesAll : Exponents → Terms → Type 0
DividesAll u f = Each (λ (t : Term). (k : ℕ) → entry u k ≤ entry t.mono k) f

-- an exponent that no monomial of f is below at an index is at most that of u there
abbrev pub IsGreatest : Exponents → Terms → Type 0
IsGreatest u f = (j k : ℕ) → Each (λ (t : Term). j ≤ entry t.mono k) f → j ≤ entry u k

-- a term, divided
abbrev pub divided_term : Exponents → Term → Term
divided_term u t = record { coef = t.coef; mono = minus t.mono u }

-- f is the rest times a monomial in n variables: the greatest that divides each of its terms
pub record IsStripped (n : ℕ) (f : Terms) (s : Factors) : Type 0 where
  pub long : length s.by ≡ n
  pub all : DividesAll s.by f
  pub greatest : IsGreatest s.by f
  pub equal : times one_ℚ s.by s.rest ≡ f
  pub variables : HasVariables n s.rest
