-- `_fancommonrefinement`: its output for the texts of its two files, and why it is refused.
use Rattle.std.specs.Prelude.{◌≡◌, ℕ, List, [], ◌∷◌}
use Rattle.gf_vec.specs.declared.error.WideVector.{WideVector}
use Rattle.gf_fan.specs.FanLists.{FanLists}
use Rattle.gf_fan_files.specs.declared.error.FanFileError.{FanFileError}
use Rattle.gf_fan_files.specs.declared.error.FanFileError.TheVariants as file_errors
use Rattle.gf_fan_files.specs.declared.file.FanFile.{FanFile}
use Rattle.gf_fan_files.specs.FanWords.{fan_text}
use Rattle.gf_fan_files.specs.FanTexts.{parts_of_fan, IsWritingStep}
use Rattle.gf_fan_files.specs.Files.{IsFileOf, IsSoundFile}
use Rattle.gf_fan_files.specs.FilesFans.{IsFanOfText, IsFanFileRefusal, IsFileWithinLimits, IsCertifiedFile, AreFileConesMeeting}
use Rattle.gf_refine.specs.declared.error.RefineError.{RefineError}
use Rattle.gf_refine.specs.declared.error.RefineError.TheVariants as refine_errors
use Rattle.gf_refine.specs.FansRefined.{IsRefinementOf}
use Rattle.gf_refine.specs.Refusals.{IsRefineRefusal, IsRefinedWithinLimits}
use Rattle.gf_front.specs.declared.refusal.Refusal.{Refusal}
use Rattle.gf_front.specs.declared.refusal.Refusal.TheVariants as refusals
use Rattle.gf_items.specs.Checks.{Check}
use Rattle.gf_frame.specs.Loading.{Origin}
use Rattle.gf_frame.specs.Readings.{of_two}
use Rattle.gf_frame.specs.Commands.{Writing, Command}
use Rattle.gfan_fans.specs.FanTexts.{IsWritingWithin}

-- ---- refusals of other crates, as ones of the run

-- the refusal of a fan file, as one of the run
abbrev pub of_fan_file : FanFileError → Refusal
of_fan_file (file_errors.Syntax s) = refusals.Syntax s
of_fan_file (file_errors.TooWide at) = refusals.TooWide at
of_fan_file (file_errors.TooManyVariables count) = refusals.TooManyVariables count
of_fan_file (file_errors.Cone o) = refusals.ConeOverflow o.row o.op o.left o.right
of_fan_file (file_errors.NotAFan first second) = refusals.NotAFan first second
of_fan_file (file_errors.Missing section) = refusals.Missing section
of_fan_file (file_errors.BadRay number) = refusals.BadRay number
of_fan_file (file_errors.Dimensions left right) = refusals.Dimensions left right
of_fan_file (file_errors.BadVersion number) = refusals.BadVersion number
of_fan_file (file_errors.BadCertificate cone) = refusals.BadCertificate cone
of_fan_file (file_errors.Wide w) = refusals.WideVector w
of_fan_file file_errors.Memory = refusals.Memory

-- the refusal of a refinement, as one of the run
abbrev pub of_refine : RefineError → Refusal
of_refine (refine_errors.Cone o) = refusals.ConeOverflow o.row o.op o.left o.right
of_refine (refine_errors.Dimensions left right) = refusals.Dimensions left right
of_refine refine_errors.Memory = refusals.Memory

-- ---- what is written

-- both texts describe fans, of vectors of the same length, and the text is that of the common refinement of the two fans
pub record IsRefinementText (a b text : List ℕ) : Type 0 where
  pub first : FanLists
  pub second : FanLists
  pub common : FanLists
  pub is_first : IsFanOfText a first
  pub is_second : IsFanOfText b second
  pub same : second.ambient ≡ first.ambient
  pub refined : IsRefinementOf first second common
  pub is_text : text ≡ fan_text (parts_of_fan common)

-- ---- why it is refused

-- the first text describes no fan; or it does, and the second describes none; or both do, and their refinement is refused; or it isn't, and
-- the sum of the rays of one of its maximal cones leaves the range; or memory runs out
pub data IsRefinementRefused (a b : List ℕ) (r : Refusal) : Type 0 where
  in_first : (e : FanFileError) → IsFanFileRefusal a e → r ≡ of_fan_file e → IsRefinementRefused a b r
  in_second : (f : FanLists) (e : FanFileError) → IsFanOfText a f → IsFanFileRefusal b e → r ≡ of_fan_file e → IsRefinementRefused a b r
  in_work : (f g : FanLists) (e : RefineError) → IsFanOfText a f → IsFanOfText b g → IsRefineRefusal f g e → r ≡ of_refine e → IsRefinementRefused a b r
  in_writing : (f g h : FanLists) (w : WideVector) → IsFanOfText a f → IsFanOfText b g → IsRefinementOf f g h → IsWritingStep h w → r ≡ refusals.WideVector w →
      IsRefinementRefused a b r
  no_memory : r ≡ refusals.Memory → IsRefinementRefused a b r

-- the refusal is found without operations on vectors: a fault of the text, an unknown version, a missing section, or a wrong length
abbrev pub IsOfWords : FanFileError → Type 0
IsOfWords (file_errors.Syntax s) = Unit {0}
IsOfWords (file_errors.TooWide at) = Unit {0}
IsOfWords (file_errors.TooManyVariables count) = Unit {0}
IsOfWords (file_errors.BadVersion number) = Unit {0}
IsOfWords (file_errors.Missing section) = Unit {0}
IsOfWords (file_errors.Dimensions left right) = Unit {0}
IsOfWords _ = ⊥

-- the text describes no fan, and r is a refusal that is found without operations on vectors
pub record IsRefusedInWords (a : List ℕ) (r : Refusal) : Type 0 where
  pub error : FanFileError
  pub of_words : IsOfWords error
  pub refused : IsFanFileRefusal a error
  pub is : r ≡ of_fan_file error

-- the text describes a file whose cones can be built, and whose interior vectors, if it has any, lie inside these cones. The intersection
-- of any two of the cones is a face of both, and no operation on the file leaves the range
pub record IsFanTextWithin (source : List ℕ) : Type 0 where
  pub file : FanFile
  pub is_file : IsFileOf source file
  pub sound : IsSoundFile file
  pub certified : IsCertifiedFile file
  pub meeting : AreFileConesMeeting file
  pub within : IsFileWithinLimits file

-- both texts describe fans, of vectors of the same length, and no operation on them leaves the range, nor does one of writing their
-- refinement
pub record IsRefinementWithin (a b : List ℕ) : Type 0 where
  pub first : IsFanTextWithin a
  pub second : IsFanTextWithin b
  pub same : second.file.ambient ≡ first.file.ambient
  pub work : (f g : FanLists) → IsFanOfText a f → IsFanOfText b g → IsRefinedWithinLimits f g
  pub writing : (f g h : FanLists) → IsFanOfText a f → IsFanOfText b g → IsRefinementOf f g h → IsWritingWithin h

-- ---- the command

-- the check that the first text describes a file, with rows of one length
abbrev pub in_words : List ℕ → Check
in_words a = record { Holds = (r : Refusal) → IsRefusedInWords a r → ⊥; Fails = λ r. IsRefusedInWords a r }

-- the command `_fancommonrefinement` on files of these names
abbrev pub refinement_command : List ℕ → List ℕ → Command
refinement_command first second = record {
  Value = List ℕ × List ℕ;
  reads = Origin.a_file first ∷ (Origin.a_file second ∷ []);
  reading = of_two;
  checks = λ v. in_words v.0 ∷ [];
  IsAnswer = λ v text. IsRefinementText v.0 v.1 text;
  IsCause = λ v r. IsRefinementRefused v.0 v.1 r;
  IsWithin = λ v. IsRefinementWithin v.0 v.1;
  writing = Writing.at_end;
}
