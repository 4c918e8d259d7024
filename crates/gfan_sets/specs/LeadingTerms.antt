-- `_leadingterms`: its output, and why it is refused.
use Rattle.std.specs.Prelude.{◌≡◌, ℕ, Bool, true, false, List, [], map, ◌∷◌}
use Rattle.gf_poly.specs.Marking.{MarkedPolynomials}
use Rattle.gf_small.specs.LeadingTerms.{leading_set}
use Rattle.gf_front.specs.declared.options.LeadingTermsOptions.{LeadingTermsOptions}
use Rattle.gf_front.specs.declared.refusal.Refusal.TheVariants as refusals
use Rattle.gf_items.specs.Sources.{ring_marked_set, ring_marked_sets}
use Rattle.gf_frame.specs.Loading.{Origin}
use Rattle.gf_frame.specs.Readings.{of_one}
use Rattle.gf_frame.specs.Commands.{Writing, Command}
use Rattle.gfan_common.specs.Printing.{IsPrinted, IsPrintedList}

-- the output is the ring in a line, and the marked terms of the set, or of each set of a list, in the order in which they were read
abbrev pub leading_command : (listed : Bool) → Command
leading_command false = record {
  Value = List (List ℕ) × MarkedPolynomials;
  reads = Origin.the_input ∷ [];
  reading = of_one ring_marked_set;
  checks = λ v. [];
  IsAnswer = λ v text. IsPrinted v.0 (leading_set v.1) text;
  IsCause = λ v r. r ≡ refusals.Memory;
  IsWithin = λ v. Unit {0};
  writing = Writing.at_end;
}
leading_command true = record {
  Value = List (List ℕ) × List MarkedPolynomials;
  reads = Origin.the_input ∷ [];
  reading = of_one ring_marked_sets;
  checks = λ v. [];
  IsAnswer = λ v text. IsPrintedList v.0 (map leading_set v.1) text;
  IsCause = λ v r. r ≡ refusals.Memory;
  IsWithin = λ v. Unit {0};
  writing = Writing.at_end;
}

-- the command `_leadingterms` with these options
abbrev pub leading_terms_command : LeadingTermsOptions → Command
leading_terms_command o = leading_command o.listed
