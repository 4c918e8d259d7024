-- `_polynomialsetunion`: its input, its output, and why it is refused.
use Rattle.std.specs.Prelude.{◌≡◌, ℕ, List, [], ◌∷◌}
use Rattle.gf_text.specs.declared.written.Written.{Written}
use Rattle.gf_small.specs.Unions.{IsUnion}
use Rattle.gf_front.specs.declared.refusal.Refusal.TheVariants as refusals
use Rattle.gf_items.specs.Sources.{ring_and_set_list}
use Rattle.gf_frame.specs.Loading.{Origin}
use Rattle.gf_frame.specs.Readings.{of_one}
use Rattle.gf_frame.specs.Commands.{Writing, Command}
use Rattle.gfan_common.specs.Printing.{IsPrintedSet}

-- the text is the ring in a line, and the polynomials of all sets in the order in which they were read, but of equal polynomials only the
-- first
pub record IsUnionText (ring : List (List ℕ)) (sets : List (List Written)) (text : List ℕ) : Type 0 where
  pub union : List Written
  pub is_union : IsUnion sets union
  pub is_text : IsPrintedSet ring union text

-- the command `_polynomialsetunion`
abbrev pub polynomial_set_union_command : Command
polynomial_set_union_command = record {
  Value = List (List ℕ) × List (List Written);
  reads = Origin.the_input ∷ [];
  reading = of_one ring_and_set_list;
  checks = λ v. [];
  IsAnswer = λ v text. IsUnionText v.0 v.1 text;
  IsCause = λ v r. r ≡ refusals.Memory;
  IsWithin = λ v. Unit {0};
  writing = Writing.at_end;
}
