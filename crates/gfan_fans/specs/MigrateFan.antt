-- `_migratefan`: its input, its output, and why it is refused.
use Rattle.std.specs.Prelude.{◌≡◌, ℕ, List, [], ◌∷◌}
use Rattle.gf_fan.specs.FanLists.{FanLists}
use Rattle.gf_fan_files.specs.declared.error.FanFileError.{FanFileError}
use Rattle.gf_fan_files.specs.FilesFans.{IsFanOfText}
use Rattle.gf_fan_files.specs.Migration.{IsMigratedWhole, IsMigrationRefusal}
use Rattle.gf_front.specs.declared.refusal.Refusal.{Refusal}
use Rattle.gf_frame.specs.Loading.{Origin}
use Rattle.gf_frame.specs.Readings.{of_whole}
use Rattle.gf_frame.specs.Commands.{Writing, Command}
use Rattle.gfan_fans.specs.FanTexts.{IsWritingWithin}
use Rattle.gfan_fans.specs.CommonRefinement.{of_fan_file, IsOfWords, IsFanTextWithin, in_words}

-- r is a refusal of the migration that isn't found without operations on vectors
pub record IsNoMigration (source : List ℕ) (r : Refusal) : Type 0 where
  pub error : FanFileError
  pub of_work : IsOfWords error → ⊥
  pub refused : IsMigrationRefusal source error
  pub is : r ≡ of_fan_file error

-- the source describes a fan, and no operation on it leaves the range, nor does one of writing it
pub record IsMigrationWithin (source : List ℕ) : Type 0 where
  pub reading : IsFanTextWithin source
  pub writing : (f : FanLists) → IsFanOfText source f → IsWritingWithin f

-- the command `_migratefan`: the fan that a fan file describes, in the version 2. The fan that is read from the output has the same cones,
-- and its migration is the same text
abbrev pub migrate_fan_command : Command
migrate_fan_command = record {
  Value = List ℕ;
  reads = Origin.the_input ∷ [];
  reading = of_whole;
  checks = λ source. in_words source ∷ [];
  IsAnswer = λ source text. IsMigratedWhole source text;
  IsCause = λ source r. IsNoMigration source r;
  IsWithin = λ source. IsMigrationWithin source;
  writing = Writing.at_end;
}
