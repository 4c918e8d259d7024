-- `_tropicalintersection`, also with `--basistest`: its output, and why it is refused.
use Rattle.std.specs.Prelude.{◌≡◌, ℕ, Bool, true, false, List, [], ◌∷◌, ◌++◌, length, Option, None, ℤ}
use Rattle.gf_poly.specs.Polynomial.{Terms}
use Rattle.gf_tropical.specs.Refusals.{NoneIsZero}
use Rattle.gf_initial_monomials.specs.declared.error.InitialError.{InitialError}
use Rattle.gf_initial_monomials.specs.declared.error.InitialError.TheVariants as initial_errors
use Rattle.gf_tropical_basis_test.specs.declared.error.BasisTestError.{BasisTestError}
use Rattle.gf_tropical_basis_test.specs.declared.error.BasisTestError.TheVariants as test_errors
use Rattle.gf_tropical_basis_test.specs.declared.verdict.Verdict.{Verdict}
use Rattle.gf_tropical_basis_test.specs.declared.verdict.Verdict.TheVariants as verdicts
use Rattle.gf_tropical_basis_test.specs.Verdicts.{IsVerdict, IsFirstVerdict}
use Rattle.gf_tropical_basis_test.specs.Refusals.{IsVerdictRefusal}
use Rattle.gf_tropical_basis_test.specs.Limits.{IsTestWithinLimits}
use Rattle.gf_text.specs.declared.written.Written.{Written}
use Rattle.gf_text.specs.VectorText.{vector_text}
use Rattle.gf_front.specs.declared.options.TropicalIntersectionOptions.{TropicalIntersectionOptions}
use Rattle.gf_front.specs.declared.refusal.Refusal.{Refusal}
use Rattle.gf_front.specs.declared.refusal.Refusal.TheVariants as refusals
use Rattle.gf_front.specs.Table.{usual_pairs}
use Rattle.gf_items.specs.Sources.{ring_set_vector}
use Rattle.gf_items.specs.Checks.{Check}
use Rattle.gf_frame.specs.Loading.{Origin}
use Rattle.gf_frame.specs.Readings.{of_one}
use Rattle.gf_frame.specs.Commands.{Writing, Command}
use Rattle.gfan_fans.specs.declared.tropical.TropicalFan.TheVariants as fans
use Rattle.gfan_common.specs.Forms.{generators_of, AreTaken, IsDegreeRefusal}
use Rattle.gfan_common.specs.Causes.{of_basis, of_tree}
use Rattle.gfan_common.specs.ToolForms.{without_zero}
use Rattle.gfan_fans.specs.Tropical.{of_tropical, tropical_command}

-- ---- refusals

-- the refusal at a basis and a cone, as one of the run
abbrev pub of_initial : InitialError → Refusal
of_initial (initial_errors.Cone o) = refusals.ConeOverflow o.row o.op o.left o.right
of_initial (initial_errors.Wide w) = refusals.WideVector w
of_initial (initial_errors.Entry index value) = refusals.WideRoot index value
of_initial (initial_errors.Saturation e) = of_basis e
of_initial initial_errors.Memory = refusals.Memory

-- the refusal of the test, as one of the run
abbrev pub of_basis_test : BasisTestError → Refusal
of_basis_test (test_errors.Prevariety e) = of_tropical e
of_basis_test (test_errors.Root e) = of_basis e
of_basis_test (test_errors.Search e) = of_tree e
of_basis_test (test_errors.Initial e) = of_initial e
of_basis_test test_errors.Memory = refusals.Memory

-- ---- what is written

-- 1 in a line; or 0 in a line, and the vector in the next one
abbrev pub basis_test_text : Verdict → List ℕ
basis_test_text verdicts.Yes = 49 ∷ 10 ∷ []
basis_test_text (verdicts.No v) = 48 ∷ 10 ∷ (vector_text v ++ 10 ∷ [])

-- the text is that of the verdict on these polynomials; if the verdict is no, its vector is the first that fails
pub record IsBasisTestText (n : ℕ) (fs : List Terms) (text : List ℕ) : Type 0 where
  pub verdict : Verdict
  pub right : IsVerdict n fs verdict
  pub first : IsFirstVerdict n fs verdict
  pub is_text : text ≡ basis_test_text verdict

-- r is a refusal of the test of these polynomials, none of which is zero
pub record IsNoBasisTestText (n : ℕ) (fs : List Terms) (r : Refusal) : Type 0 where
  pub error : BasisTestError
  pub told : r ≡ of_basis_test error
  pub nonzero : NoneIsZero fs
  pub refused : IsVerdictRefusal n fs usual_pairs error

-- ---- the command

-- the check that each polynomial is homogeneous; the refusal has the first one that isn't, with two of its monomials of different degrees
abbrev pub of_one_degree : List Terms → Check
of_one_degree fs = record { Holds = AreTaken true None fs; Fails = IsDegreeRefusal true None fs }

-- the command `_tropicalintersection --basistest`: whether the polynomials of a set, none of them zero and each homogeneous, are a tropical
-- basis
abbrev pub basis_test_command : Command
basis_test_command = record {
  Value = List (List ℕ) × (List Written × Option (List ℤ));
  reads = Origin.the_input ∷ [];
  reading = of_one (ring_set_vector false);
  checks = λ v. without_zero v.1.0 ∷ of_one_degree (generators_of v.1.0) ∷ [];
  IsAnswer = λ v text. IsBasisTestText (length v.0) (generators_of v.1.0) text;
  IsCause = λ v r. IsNoBasisTestText (length v.0) (generators_of v.1.0) r;
  IsWithin = λ v. IsTestWithinLimits (length v.0) (generators_of v.1.0) usual_pairs;
  writing = Writing.at_end;
}

-- the test of a tropical basis, or the fan
abbrev pub intersection_by : (basis_test : Bool) → Command
intersection_by false = tropical_command fans.Intersection
intersection_by true = basis_test_command

-- the command `_tropicalintersection` with these options
abbrev pub intersection_command : TropicalIntersectionOptions → Command
intersection_command o = intersection_by o.basis_test
