-- `_markpolynomialset`: its input, its output, and why it is refused.
use Rattle.std.specs.Prelude.{◌≡◌, ℕ, List, [], ◌∷◌, length, ℤ}
use Rattle.gf_poly.specs.Marking.{MarkedPolynomial, MarkedPolynomials, polys}
use Rattle.gf_text.specs.declared.written.Written.{Written}
use Rattle.gf_text.specs.Sets.{AreNonzero}
use Rattle.gf_small.specs.MarksByWeight.{AreMarkedByWeight}
use Rattle.gf_front.specs.declared.refusal.Refusal.TheVariants as refusals
use Rattle.gf_items.specs.Sources.{ring_set_and_vector}
use Rattle.gf_frame.specs.Loading.{Origin}
use Rattle.gf_frame.specs.Readings.{of_one}
use Rattle.gf_frame.specs.Commands.{Writing, Command}
use Rattle.gfan_common.specs.Printing.{IsPrinted}
use Rattle.gfan_common.specs.ToolForms.{for_variables, without_zero}

-- the text is the ring in a line, and the polynomials in the order in which they were read, each marked at its greatest term by the vector,
-- ties broken by lex
pub record IsMarkedByText (ring : List (List ℕ)) (ws : List Written) (vector : List ℤ) (text : List ℕ) : Type 0 where
  pub items : List MarkedPolynomial
  pub read : AreNonzero ws items
  pub set : MarkedPolynomials
  pub is_marked : AreMarkedByWeight vector (polys items) set
  pub is_text : IsPrinted ring set text

-- the command `_markpolynomialset`
abbrev pub mark_polynomial_set_command : Command
mark_polynomial_set_command = record {
  Value = List (List ℕ) × (List Written × List ℤ);
  reads = Origin.the_input ∷ [];
  reading = of_one ring_set_and_vector;
  checks = λ v. for_variables (length v.0) v.1.1 ∷ without_zero v.1.0 ∷ [];
  IsAnswer = λ v text. IsMarkedByText v.0 v.1.0 v.1.1 text;
  IsCause = λ v r. r ≡ refusals.Memory;
  IsWithin = λ v. Unit {0};
  writing = Writing.at_end;
}
