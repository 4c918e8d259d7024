-- Marked sets that a command reads and checks: the refusal of a check, as one of the run.
use Rattle.gf_reduced.specs.declared.error.CheckError.{CheckError}
use Rattle.gf_reduced.specs.declared.error.CheckError.TheVariants as check_errors
use Rattle.gf_front.specs.declared.refusal.Refusal.{Refusal}
use Rattle.gf_front.specs.declared.refusal.Refusal.TheVariants as refusals
use Rattle.std.specs.Prelude.{List, Contains}
use Rattle.gf_poly.specs.declared.error.PolyError.{PolyError}
use Rattle.gf_poly.specs.declared.error.PolyError.TheVariants as errors
use Rattle.gf_poly.specs.Polynomial.{Terms}
use Rattle.gf_poly.specs.Marking.{MarkedPolynomial}
use Rattle.gf_division.specs.Steps.{IsReductionRefusal}

-- the refusal of a check, as one of the run
abbrev pub of_check : CheckError → Refusal
of_check (check_errors.Overflow o) = refusals.Overflow o
of_check (check_errors.Exponent o) = refusals.ExponentOverflow o
of_check (check_errors.NotReduced set polynomial term) = refusals.NotReduced set polynomial term
of_check (check_errors.NotBasis set first second remainder) = refusals.NotBasis set first second remainder
of_check (check_errors.Inconsistent set multipliers) = refusals.Inconsistent set multipliers
of_check (check_errors.Cone o) = refusals.ConeOverflow o.row o.op o.left o.right
of_check check_errors.Memory = refusals.Memory

-- an operation of the reduction of some polynomial of fs by bs leaves its range
pub record IsSomeReductionCause (bs : List MarkedPolynomial) (fs : List Terms) (e : PolyError) : Type 0 where
  pub polynomial : Terms
  pub contained : Contains fs polynomial
  pub cause : IsReductionRefusal bs polynomial e

-- some polynomial can't be reduced for this cause, or memory runs out
abbrev pub IsSomeReductionRefusal : List MarkedPolynomial → List Terms → PolyError → Type 0
IsSomeReductionRefusal bs fs (errors.Overflow o) = IsSomeReductionCause bs fs (errors.Overflow o)
IsSomeReductionRefusal bs fs (errors.Exponent o) = IsSomeReductionCause bs fs (errors.Exponent o)
IsSomeReductionRefusal bs fs errors.Memory = Unit {0}
