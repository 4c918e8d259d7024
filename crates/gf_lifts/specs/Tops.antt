-- Lifts that end once nothing is left along the normal. Laws: proofs/TopLaws.antt.
use Rattle.std.specs.Prelude.{◌≡◌, ℕ, List, ℤ, Contains}
use Rattle.gf_frac.specs.Fraction.{reciprocal_ℚ}
use Rattle.gf_exponents_theory.specs.Exponents.{Exponents}
use Rattle.gf_poly.specs.declared.Term.{Term}
use Rattle.gf_poly.specs.Polynomial.{Terms, coefficient, IsDescending, KeepsVariables}
use Rattle.gf_poly.specs.Marking.{MarkedPolynomial, Each}
use Rattle.gf_poly.specs.Products.{IsScaled}
use Rattle.gf_ideal_theory.specs.Membership.{HasMonomial}
use Rattle.gf_ideal_theory.specs.Reduction.{Reached}
use Rattle.gf_ideal_theory.specs.Settled.{IsAt}
use Rattle.gf_ideal_theory.specs.OrderTable.{AreMultipleApart}

-- no listed term is a multiple of a apart from x
abbrev pub AreOff : List ℤ → Exponents → Terms → Type 0
AreOff a x f = Each (λ (t : Term). AreMultipleApart a t.mono x → ⊥) f

-- steps by bs lead from f to r, none of whose terms is a multiple of a apart from x
pub record IsTopRemainder (bs : List MarkedPolynomial) (a : List ℤ) (x : Exponents) (f r : Terms) : Type 0 where
  pub reached : Reached (Contains bs) f r
  pub off : AreOff a x r
  pub kept : KeepsVariables f r
  pub descending : IsDescending r

-- the member at the index j has the mark h
pub record IsMarkedAt (bs : List MarkedPolynomial) (h : Exponents) (j : ℕ) : Type 0 where
  pub member : MarkedPolynomial
  pub at : IsAt bs j member
  pub head : member.head ≡ h

-- l is b divided by its coefficient at x, and marked there
pub record IsQuotientAt (b : MarkedPolynomial) (x : Exponents) (l : MarkedPolynomial) : Type 0 where
  pub there : HasMonomial b.poly x
  pub scaled : IsScaled (reciprocal_ℚ (coefficient b.poly x)) b.poly l.poly
  pub head : l.head ≡ x
  pub variables : KeepsVariables b.poly l.poly
