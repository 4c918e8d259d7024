-- The monic forms of a marked set. Laws: proofs/FormLaws.antt.
use Rattle.std.specs.Prelude.{List, [], map, Contains}
use Rattle.gf_frac.specs.Fraction.{reciprocal_ℚ}
use Rattle.gf_poly.specs.declared.error.PolyError.{PolyError}
use Rattle.gf_poly.specs.declared.error.PolyError.TheVariants as errors
use Rattle.gf_poly.specs.Polynomial.{coefficient, times}
use Rattle.gf_poly.specs.Marking.{MarkedPolynomial, MarkedPolynomials, IsMonicCause}

-- b divided by its marked coefficient, with the same mark
abbrev pub monic_of : MarkedPolynomial → MarkedPolynomial
monic_of b = record { poly = times (reciprocal_ℚ (coefficient b.poly b.head)) [] b.poly; head = b.head }

-- s with each member divided by its marked coefficient
abbrev pub monic_set : MarkedPolynomials → MarkedPolynomials
monic_set s = record { variables = s.variables; items = map monic_of s.items }

-- ---- refusals

-- why some member can't be divided by its marked coefficient
pub record IsSomeMonicRefusal (bs : List MarkedPolynomial) (e : PolyError) : Type 0 where
  pub member : MarkedPolynomial
  pub contained : Contains bs member
  pub cause : IsMonicCause member e

-- an operation on the coefficients leaves its range for some member, or memory runs out
abbrev pub IsFormRefusal : List MarkedPolynomial → PolyError → Type 0
IsFormRefusal bs (errors.Overflow o) = IsSomeMonicRefusal bs (errors.Overflow o)
IsFormRefusal bs (errors.Exponent o) = ⊥
IsFormRefusal bs errors.Memory = Unit {0}
