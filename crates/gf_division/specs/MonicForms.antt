-- Marked polynomials made monic: divided by the marked coefficient, the mark kept.
-- Laws: proofs/MonicLaws.antt.
use Rattle.std.specs.Prelude.{◌≡◌, ◌≢◌, ℕ}
use Rattle.gf_frac.specs.Fraction.{Fraction, one_ℚ}
use Rattle.gf_frac.specs.declared.refusal.Op.{Op}
use Rattle.gf_poly.specs.declared.error.PolyError.{PolyError}
use Rattle.gf_poly.specs.Refusals.{IsRefusedBy, NoSum}
use Rattle.gf_poly.specs.Polynomial.{HasVariables, coefficient}
use Rattle.gf_poly.specs.Marking.{MarkedPolynomial}
use Rattle.gf_ideal_theory.specs.Reduction.{IsMonicForm}
use Rattle.gf_ideal_theory.specs.Operands.{IsMonicOperation}

-- b is f divided by its marked coefficient, with the same mark; where that is 1 already, f itself
pub record IsMadeMonic (f b : MarkedPolynomial) : Type 0 where
  pub form : IsMonicForm f.poly b
  pub head : b.head ≡ f.head
  pub kept : coefficient f.poly f.head ≡ one_ℚ → b ≡ f

-- the operation is one of making f monic, whose marked coefficient isn't 1 yet
pub record IsDivisionByMark (f : MarkedPolynomial) (op : Op) (left right : Fraction) : Type 0 where
  pub needed : coefficient f.poly f.head ≢ one_ℚ
  pub operation : IsMonicOperation f.poly f.head op left right

-- why f isn't made monic: a coefficient and the marked one, whose quotient doesn't fit
abbrev pub IsMonicRefusal : MarkedPolynomial → PolyError → Type 0
IsMonicRefusal f = IsRefusedBy (IsDivisionByMark f) NoSum

-- all monomials have the same number of variables
pub record HasSomeVariables (f : MarkedPolynomial) : Type 0 where
  pub n : ℕ
  pub each : HasVariables n f.poly
