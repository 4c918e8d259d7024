-- `_initialforms`: its input, its output, and why it is refused.
use Rattle.std.specs.Prelude.{◌≡◌, ℕ, List, [], ◌∷◌, length, ℤ}
use Rattle.gf_text.specs.declared.written.Written.{Written}
use Rattle.gf_small.specs.InitialForms.{AreInitialForms}
use Rattle.gf_front.specs.declared.refusal.Refusal.TheVariants as refusals
use Rattle.gf_items.specs.Sources.{ring_set_and_vector}
use Rattle.gf_frame.specs.Loading.{Origin}
use Rattle.gf_frame.specs.Readings.{of_one}
use Rattle.gf_frame.specs.Commands.{Writing, Command}
use Rattle.gfan_common.specs.Printing.{IsPrintedSet}
use Rattle.gfan_common.specs.ToolForms.{for_variables}

-- the text is the ring in a line, and the initial forms of the polynomials by the vector, in the order in which the polynomials were read
pub record IsFormsText (ring : List (List ℕ)) (ws : List Written) (vector : List ℤ) (text : List ℕ) : Type 0 where
  pub forms : List Written
  pub are_forms : AreInitialForms vector ws forms
  pub is_text : IsPrintedSet ring forms text

-- the command `_initialforms`
abbrev pub initial_forms_command : Command
initial_forms_command = record {
  Value = List (List ℕ) × (List Written × List ℤ);
  reads = Origin.the_input ∷ [];
  reading = of_one ring_set_and_vector;
  checks = λ v. for_variables (length v.0) v.1.1 ∷ [];
  IsAnswer = λ v text. IsFormsText v.0 v.1.0 v.1.1 text;
  IsCause = λ v r. r ≡ refusals.Memory;
  IsWithin = λ v. Unit {0};
  writing = Writing.at_end;
}
