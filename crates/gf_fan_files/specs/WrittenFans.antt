-- The text of a fan says a file whose cones can be built, and they are the cones that were written; so it is read as the fan that was
-- written.
-- Laws: proofs/WrittenFansLaws.antt, proofs/ReadAgainLaws.antt.
use Rattle.std.specs.Prelude.{◌≡◌, ◌⊎◌, ◌<◌, ℕ, List, Some, slice_get}
use Rattle.std.specs.List.{AllZip}
use Rattle.gf_duality_theory.specs.Faces.{SameCone}
use Rattle.gf_rays.specs.Cones.{RowsAndRays, rows_of}
use Rattle.gf_fan.specs.declared.cones.FanCone.{FanCone}
use Rattle.gf_fan.specs.FanLists.{FanLists}
use Rattle.gf_fan.specs.FansOfCones.{IsFanOf, IsFan}
use Rattle.gf_fan.specs.SameCones.{HaveSameCones}
use Rattle.gf_vec.specs.declared.error.WideVector.{WideVector}
use Rattle.gf_fan_files.specs.declared.error.FanFileError.{FanFileError}
use Rattle.gf_fan_files.specs.declared.error.FanFileError.TheVariants as errors
use Rattle.gf_fan_files.specs.Files.{IsSoundFile}
use Rattle.gf_fan_files.specs.FanWords.{fan_text}
use Rattle.gf_fan_files.specs.FansAgain.{IsWritable, file_of}
use Rattle.gf_fan_files.specs.FanTexts.{parts_of_fan, IsWritingStep}
use Rattle.gf_fan_files.specs.FilesFans.{AreConesOfFile, IsCertifiedFile, AreFileConesMeeting, IsFileLimit, IsFanFileRefusal, IsFanOfText}

-- it says that memory is wanting, that such an operation on what was written of the fan leaves the range, or that one of writing it does
abbrev pub IsAgainLimit : FanLists → FanFileError → Type 0
IsAgainLimit f e = IsFileLimit (file_of (parts_of_fan f)) e ⊎ ((w : WideVector) × (IsWritingStep f w × (e ≡ errors.Wide w)))

-- what is written of a fan is a file whose cones can be built: its rays lie outside its lineality space, and numbers are those of rays
abbrev pub WrittenFansAreSound : Type 0
WrittenFansAreSound = (n : ℕ) (given : List RowsAndRays) (f : FanLists) → 0 < n → IsFanOf n given f → IsSoundFile (file_of (parts_of_fan f))

-- c is the cone at this place
pub record IsConeAt (n : ℕ) (cones : List FanCone) (i : ℕ) (c : RowsAndRays) : Type 0 where
  pub cone : FanCone
  pub at : slice_get cones i ≡ Some cone
  pub same : SameCone n (rows_of c) (rows_of cone.cone)

-- the cones of that file are the maximal cones that were written, in their order
abbrev pub WrittenConesAreRead : Type 0
WrittenConesAreRead = (n : ℕ) (given cones : List RowsAndRays) (f : FanLists) → IsFanOf n given f → AreConesOfFile (file_of (parts_of_fan f)) cones →
    AllZip (IsConeAt n f.cones) f.maximal cones

-- these cones meet in faces, and the rows that were written lie inside them; the text is refused for memory alone, or for an operation on
-- that file that leaves the range; a fan that it says has the same cones as the fan that was written, each of them, and is written as the same text
pub record WrittenFansAreRead : Type 0 where
  pub meeting : (f : FanLists) → IsFan f → AreFileConesMeeting (file_of (parts_of_fan f))
  pub certified : (f : FanLists) → IsFan f → IsCertifiedFile (file_of (parts_of_fan f))
  pub refused : (f : FanLists) (e : FanFileError) → IsFan f → IsWritable (parts_of_fan f) → IsFanFileRefusal (fan_text (parts_of_fan f)) e →
      IsFileLimit (file_of (parts_of_fan f)) e
  pub cones : (f h : FanLists) → IsFan f → IsWritable (parts_of_fan f) → IsFanOfText (fan_text (parts_of_fan f)) h → HaveSameCones f h
  pub text : (f h : FanLists) → IsFan f → IsFan h → HaveSameCones f h → fan_text (parts_of_fan h) ≡ fan_text (parts_of_fan f)
