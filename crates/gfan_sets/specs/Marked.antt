-- `_ismarkedgroebnerbasis`: its output, and why it is refused.
use Rattle.std.specs.Prelude.{◌≡◌, ℕ, List, [], ◌∷◌}
use Rattle.gf_poly.specs.Marking.{MarkedPolynomials}
use Rattle.gf_reduced.specs.declared.error.CheckError.{CheckError}
use Rattle.gf_reduced.specs.declared.error.CheckError.TheVariants as check_errors
use Rattle.gf_reduced.specs.Markings.{IsMarkedGroebnerBasis}
use Rattle.gf_reduced.specs.Refusals.{IsTestRefusal}
use Rattle.gf_items.specs.Sources.{ring_marked_set}
use Rattle.gf_frame.specs.Loading.{Origin}
use Rattle.gf_frame.specs.Readings.{of_one}
use Rattle.gf_frame.specs.Commands.{Writing, Command}
use Rattle.gfan_common.specs.Printing.{IsVerdictText}
use Rattle.gfan_common.specs.CheckedSets.{of_check}

-- the command `_ismarkedgroebnerbasis`. The output is 1 if the set is a Gröbner basis of the ideal that it generates, for its marking, and
-- 0 if it isn't
abbrev pub marked_command : Command
marked_command = record {
  Value = List (List ℕ) × MarkedPolynomials;
  reads = Origin.the_input ∷ [];
  reading = of_one ring_marked_set;
  checks = λ v. [];
  IsAnswer = λ v text. IsVerdictText (IsMarkedGroebnerBasis v.1.variables v.1.items) text;
  IsCause = λ v r. (e : CheckError) × (r ≡ of_check e) × IsTestRefusal v.1 e;
  IsWithin = λ v. (e : CheckError) → IsTestRefusal v.1 e → e ≡ check_errors.Memory;
  writing = Writing.at_end;
}
