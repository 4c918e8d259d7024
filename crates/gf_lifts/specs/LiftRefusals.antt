-- The operations of taking the remainders by the basis from the members of the basis of the parts, and why that is refused.
-- Laws: proofs/LiftRefusalSteps.antt.
use Rattle.std.specs.Prelude.{◌≡◌, ℕ, List, Contains}
use Rattle.gf_frac.specs.Fraction.{Fraction}
use Rattle.gf_frac.specs.declared.refusal.Op.{Op}
use Rattle.gf_frac.specs.declared.refusal.Op.TheVariants.{Sub}
use Rattle.gf_exponents_theory.specs.Exponents.{Exponents}
use Rattle.gf_poly.specs.declared.error.PolyError.{PolyError}
use Rattle.gf_poly.specs.Polynomial.{Terms, coefficient}
use Rattle.gf_poly.specs.Refusals.{IsRefusedBy}
use Rattle.gf_poly.specs.Marking.{MarkedPolynomial}
use Rattle.gf_ideal_theory.specs.NormalForms.{IsNormalForm}
use Rattle.gf_ideal_theory.specs.Operands.{IsReductionOperation, IsReductionExponents}

-- the operation is one of a reduction of h by bs, or the difference of a coefficient of h and that of its remainder at the same monomial
pub data IsLiftOperation (bs : List MarkedPolynomial) (h : MarkedPolynomial) (op : Op) (left right : Fraction) : Type 0 where
  remainder : IsReductionOperation (Contains bs) h.poly op left right → IsLiftOperation bs h op left right
  difference : (r : Terms) (at : Exponents) → IsNormalForm bs h.poly r → op ≡ Sub → left ≡ coefficient h.poly at →
      right ≡ coefficient r at → IsLiftOperation bs h op left right

-- why h isn't lifted
abbrev pub IsLiftRefusal : List MarkedPolynomial → MarkedPolynomial → PolyError → Type 0
IsLiftRefusal bs h = IsRefusedBy (IsLiftOperation bs h) (IsReductionExponents (Contains bs) h.poly)

-- the operation is one of lifting a member
pub record IsLiftsOperation (bs hs : List MarkedPolynomial) (op : Op) (left right : Fraction) : Type 0 where
  pub member : MarkedPolynomial
  pub contained : Contains hs member
  pub operation : IsLiftOperation bs member op left right

-- the exponents are added in lifting a member
pub record IsLiftsExponents (bs hs : List MarkedPolynomial) (left right : ℕ) : Type 0 where
  pub member : MarkedPolynomial
  pub contained : Contains hs member
  pub sum : IsReductionExponents (Contains bs) member.poly left right

-- why hs aren't lifted
abbrev pub IsLiftsRefusal : List MarkedPolynomial → List MarkedPolynomial → PolyError → Type 0
IsLiftsRefusal bs hs = IsRefusedBy (IsLiftsOperation bs hs) (IsLiftsExponents bs hs)
