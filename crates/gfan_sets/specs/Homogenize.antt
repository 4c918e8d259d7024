-- `_homogenize`: its input, its output, and why it is refused.
use Rattle.std.specs.Prelude.{ℕ, All, List, [], ◌∷◌, ◌++◌, length}
use Rattle.gf_text.specs.declared.written.Written.{Written}
use Rattle.gf_small.specs.Homogenization.{AreHomogenizations, IsFirstExponentPastLimit, IsHomogenizedWithinLimit}
use Rattle.gf_front.specs.declared.refusal.Refusal.{Refusal}
use Rattle.gf_front.specs.declared.refusal.Refusal.TheVariants as refusals
use Rattle.gf_items.specs.Sources.{ring_set_and_name}
use Rattle.gf_frame.specs.Loading.{Origin}
use Rattle.gf_frame.specs.Readings.{of_one}
use Rattle.gf_frame.specs.Commands.{Writing, Command}
use Rattle.gfan_common.specs.Printing.{IsPrintedSet}
use Rattle.gfan_common.specs.ToolForms.{for_one_more}

-- the text is the ring with the new variable as its last one, in a line, and the homogenizations of the polynomials in the order in which
-- they were read
pub record IsHomogenizedText (ring : List (List ℕ)) (ws : List Written) (name : List ℕ) (text : List ℕ) : Type 0 where
  pub set : List Written
  pub are_homogenized : AreHomogenizations ws set
  pub is_text : IsPrintedSet (ring ++ name ∷ []) set text

-- an exponent of the new variable passes the limit, the first such exponent being reported; or memory runs out
abbrev pub IsHomogenizeRefusal : List Written → Refusal → Type 0
IsHomogenizeRefusal ws (refusals.ExponentOverflow o) = IsFirstExponentPastLimit ws o
IsHomogenizeRefusal ws refusals.Memory = Unit {0}
IsHomogenizeRefusal ws _ = ⊥

-- the command `_homogenize`
abbrev pub homogenize_command : Command
homogenize_command = record {
  Value = List (List ℕ) × (List Written × List ℕ);
  reads = Origin.the_input ∷ [];
  reading = of_one ring_set_and_name;
  checks = λ v. for_one_more (length v.0) ∷ [];
  IsAnswer = λ v text. IsHomogenizedText v.0 v.1.0 v.1.1 text;
  IsCause = λ v r. IsHomogenizeRefusal v.1.0 r;
  IsWithin = λ v. All IsHomogenizedWithinLimit v.1.0;
  writing = Writing.at_end;
}
