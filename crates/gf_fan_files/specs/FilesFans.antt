-- The fan that a fan file says, and why there is none.
-- A cone of a file is what the rays with its numbers and the lineality space generate. Its rows are the rays and the lineality
-- basis of the dual cone, whose rows are these rays and the vectors of the lineality space.
-- Laws: proofs/GeneratedLaws.antt, proofs/FilesFansLaws.antt.
use Rattle.std.specs.Prelude.{◌≡◌, ◌↔◌, ◌⊎◌, ℕ, List, ℤ, length, Some, Contains}
use Rattle.std.specs.List.{AllZip}
use Rattle.gf_gordan.specs.declared.error.ConeOverflow.{ConeOverflow}
use Rattle.gf_gordan.specs.declared.error.GordanError.{GordanError}
use Rattle.gf_gordan.specs.declared.error.GordanError.TheVariants as gordan_errors
use Rattle.gf_vec.specs.declared.error.WideVector.{WideVector}
use Rattle.gf_vec.specs.declared.error.VecError.{VecError}
use Rattle.gf_vec.specs.declared.error.VecError.TheVariants as vec_errors
use Rattle.gf_duality_theory.specs.Rays.{Generated, IsRays}
use Rattle.gf_duality_theory.specs.Faces.{IsInCone}
use Rattle.gf_rays.specs.Reached.{IsRaysStep}
use Rattle.gf_fans_theory.specs.FaceLists.{numbered}
use Rattle.gf_rays.specs.Cones.{RowsAndRays, rows_of}
use Rattle.gf_fan.specs.declared.error.FanError.{FanError}
use Rattle.gf_fan.specs.declared.error.FanError.TheVariants as fan_errors
use Rattle.gf_fan.specs.FanLists.{FanLists}
use Rattle.gf_fan.specs.FansOfCones.{IsFanOf}
use Rattle.gf_fan.specs.Pairs.{AreMeeting}
use Rattle.gf_fan.specs.Refusals.{IsFanStep, IsFanRefusal, IsFanWithinLimits}
use Rattle.gf_fan_files.specs.declared.error.FanFileError.{FanFileError}
use Rattle.gf_fan_files.specs.declared.error.FanFileError.TheVariants as errors
use Rattle.gf_fan_files.specs.declared.file.FanFile.{FanFile}
use Rattle.gf_fan_files.specs.Files.{IsFileOf, IsSoundFile, IsTestStep, AreTestsWithin, IsFileRefused}
use Rattle.gf_fan_files.specs.Certificates.{AreCertified, IsCertificateRowStep, IsCertificateFault}

-- ---- the fan

-- c is the cone that these rays and lineality vectors generate, by the rays and the lineality basis of the dual cone as rows
pub record IsGeneratedCone (n : ℕ) (rays lineality : List (List ℤ)) (c : RowsAndRays) : Type 0 where
  pub ambient : c.ambient ≡ n
  pub generated : (v : List ℤ) → length v ≡ n → IsInCone (rows_of c) v ↔ Generated n rays lineality v
  pub rows : IsRays n rays lineality c.equations c.inequalities
  pub are_rays : IsRays n c.inequalities c.equations c.lineality c.rays

-- the cone of these numbers in a file
abbrev pub IsConeOfFile : FanFile → List ℕ → RowsAndRays → Type 0
IsConeOfFile f numbers c = IsGeneratedCone f.ambient (numbered f.rays numbers) f.lineality c

-- the cones of a file, one for each list of numbers, in order
abbrev pub AreConesOfFile : FanFile → List RowsAndRays → Type 0
AreConesOfFile f cones = AllZip (IsConeOfFile f) f.cones cones

-- the fan of the cones of a file, whose rows lie inside them
pub record IsFanOfFile (f : FanFile) (h : FanLists) : Type 0 where
  pub cones : List RowsAndRays
  pub of_file : AreConesOfFile f cones
  pub certified : AreCertified f.ambient cones f.interiors
  pub is_fan : IsFanOf f.ambient cones h

-- the text says a file whose cones can be built, and this is their fan
pub record IsFanOfText (source : List ℕ) (h : FanLists) : Type 0 where
  pub file : FanFile
  pub is_file : IsFileOf source file
  pub sound : IsSoundFile file
  pub of_file : IsFanOfFile file h

-- ---- operations

-- an operation of finding the rays of the dual cone of these rays and lineality vectors, or then those of its dual cone
pub data IsGeneratingStep (n : ℕ) (rays lineality : List (List ℤ)) (s : ConeOverflow) : Type 0 where
  of_dual : IsRaysStep n rays lineality s → IsGeneratingStep n rays lineality s
  of_cone : (lines duals : List (List ℤ)) → IsRays n rays lineality lines duals → IsRaysStep n duals lines s → IsGeneratingStep n rays lineality s

-- an operation of finding one of the cones of a file
pub record IsConesStep (f : FanFile) (s : ConeOverflow) : Type 0 where
  pub numbers : List ℕ
  pub listed : Contains f.cones numbers
  pub step : IsGeneratingStep f.ambient (numbered f.rays numbers) f.lineality s

-- an operation on this file: of the test of one of its rays, of finding one of its cones, or of making their fan
pub data IsFileStep (f : FanFile) (s : ConeOverflow) : Type 0 where
  testing : IsTestStep f s → IsFileStep f s
  finding : IsConesStep f s → IsFileStep f s
  making : (cones : List RowsAndRays) → AreConesOfFile f cones → IsFanStep f.ambient cones s → IsFileStep f s

-- an operation of testing whether its rows lie inside their cones
pub record IsFileCertificateStep (f : FanFile) (w : WideVector) : Type 0 where
  pub cones : List RowsAndRays
  pub rows : List (List ℤ)
  pub of_file : AreConesOfFile f cones
  pub has : f.interiors ≡ Some rows
  pub step : IsCertificateRowStep f.ambient cones rows w

-- No operation on this file leaves the range: of the tests of its rays, of finding its cones, of testing its rows, of making their fan.
pub record IsFileWithinLimits (f : FanFile) : Type 0 where
  pub tests : AreTestsWithin f
  pub cones : (s : ConeOverflow) → IsConesStep f s → ⊥
  pub certificates : (w : WideVector) → IsFileCertificateStep f w → ⊥
  pub fan : (cones : List RowsAndRays) → AreConesOfFile f cones → IsFanWithinLimits f.ambient cones

-- the meet of any two of its cones is a face of both
abbrev pub AreFileConesMeeting : FanFile → Type 0
AreFileConesMeeting f = (cones : List RowsAndRays) → AreConesOfFile f cones → AreMeeting f.ambient cones

-- its rows lie inside its cones, where it has such
abbrev pub IsCertifiedFile : FanFile → Type 0
IsCertifiedFile f = (cones : List RowsAndRays) → AreConesOfFile f cones → AreCertified f.ambient cones f.interiors

-- ---- refusals

-- a refusal of finding rays as one of a fan file
abbrev pub refusal_of_gordan : GordanError → FanFileError
refusal_of_gordan (gordan_errors.Cone s) = errors.Cone s
refusal_of_gordan gordan_errors.Memory = errors.Memory

-- a refusal of a fan as one of a fan file
abbrev pub refusal_of_fan : FanError → FanFileError
refusal_of_fan (fan_errors.Cone s) = errors.Cone s
refusal_of_fan (fan_errors.NotAFan first second) = errors.NotAFan first second
refusal_of_fan fan_errors.Memory = errors.Memory

-- a refusal of sums of vectors as one of a fan file
abbrev pub refusal_of_vectors : VecError → FanFileError
refusal_of_vectors (vec_errors.Wide w) = errors.Wide w
refusal_of_vectors vec_errors.Memory = errors.Memory

-- it says that memory is wanting, or that such an operation on the file leaves the range
abbrev pub IsFileLimit : FanFile → FanFileError → Type 0
IsFileLimit f e = (e ≡ errors.Memory) ⊎ ((s : ConeOverflow) × (IsFileStep f s × (e ≡ errors.Cone s))) ⊎
    ((w : WideVector) × (IsFileCertificateStep f w × (e ≡ errors.Wide w)))

-- the fan of the cones of this file is refused so: an operation of finding its cones leaves the range; or they are found, and its rows are
-- refused so; or these lie inside the cones, and this is why the cones have no fan
pub data IsFanFault (f : FanFile) (e : FanFileError) : Type 0 where
  in_cone : (s : ConeOverflow) → IsConesStep f s → e ≡ errors.Cone s → IsFanFault f e
  in_certificate : (cones : List RowsAndRays) (rows : List (List ℤ)) → AreConesOfFile f cones → f.interiors ≡ Some rows →
      IsCertificateFault f.ambient cones rows e → IsFanFault f e
  in_fan : (cones : List RowsAndRays) (d : FanError) → AreConesOfFile f cones → AreCertified f.ambient cones f.interiors → IsFanRefusal f.ambient cones d →
      e ≡ refusal_of_fan d → IsFanFault f e

-- the text is refused so: it says no file whose cones can be built, or they have no fan; or there is no memory
pub data IsFanFileRefusal (source : List ℕ) (e : FanFileError) : Type 0 where
  before_cones : IsFileRefused source e → IsFanFileRefusal source e
  behind_form : (f : FanFile) → IsFileOf source f → IsSoundFile f → IsFanFault f e → IsFanFileRefusal source e
