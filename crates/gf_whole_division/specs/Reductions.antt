-- Reductions up to a factor: multiples of what steps lead to.
-- Laws: proofs/ReductionLaws.antt.
use Rattle.std.specs.Prelude.{◌≡◌, ◌≢◌, ℕ, ◌<◌, List, [], ◌++◌, length, None}
use Rattle.gf_frac.specs.Fraction.{Fraction, zero_ℚ}
use Rattle.gf_exponents_theory.specs.Exponents.{Exponents, Divides}
use Rattle.gf_poly.specs.Polynomial.{Terms, times}
use Rattle.gf_poly.specs.Marking.{MarkedPolynomial}
use Rattle.gf_ideal_theory.specs.NormalForms.{IsNormalForm}
use Rattle.gf_ideal_theory.specs.Reduction.{IsSPolynomial}
use Rattle.gf_ideal_theory.specs.Settled.{IsAt}
use Rattle.gf_division.specs.NormalForms.{HasSomeWeight}
use Rattle.gf_division.specs.Remainders.{IsRemainder, ReachedBeside}
use Rattle.gf_whole_division.specs.declared.dividend.WholeDividend.{WholeDividend}
use Rattle.gf_whole_division.specs.Values.{whole_terms, IsMultipleOf}

-- the polynomial under reduction: the terms that are done, and those that wait
abbrev pub terms_of : WholeDividend → Terms
terms_of d = whole_terms d.done.items ++ whole_terms d.rest.items

-- h is a multiple of a polynomial that steps lead to from f, each by the first member whose mark divides the monomial
pub record IsMultipleReached (bs : List MarkedPolynomial) (f h : Terms) : Type 0 where
  pub poly : Terms
  pub reached : ReachedBeside bs None f poly
  pub multiple : IsMultipleOf poly h

-- wherever old is a multiple of what steps lead to, new is one
pub record KeepsReached (bs : List MarkedPolynomial) (old new : Terms) : Type 0 where
  pub at : (f : Terms) → IsMultipleReached bs f old → IsMultipleReached bs f new

-- h times a factor that isn't zero is a remainder of f; where some weight marks the members, it is the normal form, each step of which is by the first
-- member whose mark divides the monomial
pub record IsRemainderMultiple (bs : List MarkedPolynomial) (f h : Terms) : Type 0 where
  pub factor : Fraction
  pub nonzero : factor ≢ zero_ℚ
  pub is : IsRemainder bs f (times factor [] h)
  pub normal_form : HasSomeWeight bs → IsNormalForm bs f (times factor [] h)

-- h is a multiple of the S-polynomial of b and c
pub record IsPairMultiple (b c : MarkedPolynomial) (h : Terms) : Type 0 where
  pub s : Terms
  pub is_s : IsSPolynomial b c s
  pub multiple : IsMultipleOf s h

-- so it is of the S-polynomial of b and c
pub record IsPairRemainderMultiple (bs : List MarkedPolynomial) (b c : MarkedPolynomial) (h : Terms) : Type 0 where
  pub s : Terms
  pub is_s : IsSPolynomial b c s
  pub remainder : IsRemainderMultiple bs s h

-- the member at the index j has a mark in the variables of x that divides it, and no member before it has a mark that divides x
pub record IsDividedAt (bs : List MarkedPolynomial) (x : Exponents) (j : ℕ) : Type 0 where
  pub member : MarkedPolynomial
  pub at : IsAt bs j member
  pub variables : length member.head ≡ length x
  pub divides : Divides member.head x
  pub first : (i : ℕ) (b : MarkedPolynomial) → i < j → IsAt bs i b → Divides b.head x → ⊥
