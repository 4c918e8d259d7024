-- A polynomial divided by one of its coefficients, and marked there.
-- Laws: proofs/MonicLaws.antt.
use Rattle.std.specs.Prelude.{◌≡◌, ℕ, Contains}
use Rattle.gf_frac.specs.Fraction.{Fraction, reciprocal_ℚ}
use Rattle.gf_poly.specs.Polynomial.{Terms, KeepsVariables}
use Rattle.gf_poly.specs.Products.{IsScaled}
use Rattle.gf_poly.specs.Marking.{MarkedPolynomial, head_of}

-- b is f divided by the coefficient of its term at the index, marked there
pub record IsMonicAt (f : Terms) (index : ℕ) (b : MarkedPolynomial) : Type 0 where
  pub mark : Fraction
  pub term : Contains f (record { coef = mark; mono = head_of f index })
  pub head : b.head ≡ head_of f index
  pub quotients : IsScaled (reciprocal_ℚ mark) f b.poly
  pub variables : KeepsVariables f b.poly
