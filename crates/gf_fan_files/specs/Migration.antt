-- A fan file is migrated: the fan that it says is written anew, in the version 2.
-- Laws: proofs/MigrationLaws.antt.
use Rattle.std.specs.Prelude.{◌≡◌, ℕ, true, List}
use Rattle.gf_vec.specs.declared.error.WideVector.{WideVector}
use Rattle.gf_fan.specs.FanLists.{FanLists}
use Rattle.gf_fan.specs.SameCones.{HaveSameCones}
use Rattle.gf_fan_files.specs.declared.error.FanFileError.{FanFileError}
use Rattle.gf_fan_files.specs.declared.error.FanFileError.TheVariants as errors
use Rattle.gf_fan_files.specs.FanText.{is_second, told_version}
use Rattle.gf_fan_files.specs.FanWords.{fan_text}
use Rattle.gf_fan_files.specs.FansAgain.{IsWritable, file_of}
use Rattle.gf_fan_files.specs.FanTexts.{parts_of_fan, IsWritingStep}
use Rattle.gf_fan_files.specs.FilesFans.{IsFanOfText, IsFileLimit, IsFanFileRefusal}

-- the text is that of a fan that the source says, within the limits of fan files
pub record IsMigrated (source text : List ℕ) : Type 0 where
  pub fan : FanLists
  pub of_source : IsFanOfText source fan
  pub writable : IsWritable (parts_of_fan fan)
  pub is_text : text ≡ fan_text (parts_of_fan fan)

-- What it was migrated to is of the version 2. Each fan that it says has the same cones as each that the source says. To migrate it once
-- more gives the same text. It isn't refused but for memory, or for an operation on what was written that leaves the range.
pub record IsMigratedWhole (source text : List ℕ) : Type 0 where
  pub migrated : IsMigrated source text
  pub second : is_second (told_version text) ≡ true
  pub cones : (f h : FanLists) → IsFanOfText source f → IsFanOfText text h → HaveSameCones f h
  pub twice : (again : List ℕ) → IsMigrated text again → again ≡ text
  pub read_again : (e : FanFileError) → IsFanFileRefusal text e → IsFileLimit (file_of (parts_of_fan migrated.fan)) e

-- all this follows from what is written
abbrev pub MigratedFilesAreWhole : Type 0
MigratedFilesAreWhole = (source text : List ℕ) → IsMigrated source text → IsMigratedWhole source text

-- the source says no fan; or it does, and a sum leaves the range where the rays of one of its maximal cones are added up
pub data IsMigrationRefusal (source : List ℕ) (e : FanFileError) : Type 0 where
  unread : IsFanFileRefusal source e → IsMigrationRefusal source e
  unwritten : (fan : FanLists) (w : WideVector) → IsFanOfText source fan → IsWritingStep fan w → e ≡ errors.Wide w → IsMigrationRefusal source e
  no_memory : e ≡ errors.Memory → IsMigrationRefusal source e
