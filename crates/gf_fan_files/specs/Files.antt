-- What a fan file says, and why it is refused before its cones are built.
-- Its version is known, and it has four sections, in the version 2 five. Then its ambient dimension isn't 0, its rows have that length, its
-- rays lie outside the lineality space, and the numbers in its cones are those of rays: asked in this order, and the first that isn't so decides.
-- Laws: proofs/FilesLaws.antt.
use Rattle.std.specs.Prelude.{◌≡◌, ◌⊎◌, ℕ, ◌+◌, ◌<◌, ◌≤◌, Bool, true, false, List, [], ◌∷◌, length, Option, None, Some, ℤ, All, Contains, HoldsAt}
use Rattle.std.specs.List.{AllWithin}
use Rattle.gf_gordan.specs.Alternative.{AreRows}
use Rattle.gf_gordan.specs.Equations.{IsStepOn}
use Rattle.gf_gordan.specs.declared.error.ConeOverflow.{ConeOverflow}
use Rattle.gf_duality_theory.specs.Rays.{Generated}
use Rattle.gf_fan_files.specs.declared.error.FanFileError.{FanFileError}
use Rattle.gf_fan_files.specs.declared.error.FanFileError.TheVariants as errors
use Rattle.gf_text.specs.declared.error.Section.{Section}
use Rattle.gf_text.specs.declared.error.Section.TheVariants as names
use Rattle.gf_fan_files.specs.declared.file.FanFile.{FanFile}
use Rattle.gf_fan_files.specs.Lines.{sections}
use Rattle.gf_fan_files.specs.FanText.{Content, the_number, the_rows, the_cones, Named, is_second, told_version, IsKnownVersion, told_table, AreHeld}
use Rattle.gf_fan_files.specs.FanText.{IsFirstFault, found, wanted, first_missing, ambient_dim, rays_name, lineality_space, maximal_cones, maximal_interiors}

-- ---- what a file says

-- the sections of the text hold this
abbrev pub AreSectionsOf : List ℕ → Named → Type 0
AreSectionsOf source all = AreHeld (told_table source) (length source) [] (sections source) all

-- what was found of MAXIMAL_INTERIORS says these rows in the version 2; others have none
abbrev pub AreInteriorsOf : Bool → Option Content → Option (List (List ℤ)) → Type 0
AreInteriorsOf true o interiors = (rows : List (List ℤ)) × ((o ≡ Some (the_rows rows)) × (interiors ≡ Some rows))
AreInteriorsOf false o interiors = interiors ≡ None

-- the text says this file
pub record IsFileOf (source : List ℕ) (f : FanFile) : Type 0 where
  pub all : Named
  pub held : AreSectionsOf source all
  pub known : IsKnownVersion (told_version source)
  pub ambient : found ambient_dim all ≡ Some (the_number f.ambient)
  pub rays : found rays_name all ≡ Some (the_rows f.rays)
  pub lineality : found lineality_space all ≡ Some (the_rows f.lineality)
  pub cones : found maximal_cones all ≡ Some (the_cones f.cones)
  pub interiors : AreInteriorsOf (is_second (told_version source)) (found maximal_interiors all) f.interiors

-- the name of a section
abbrev pub section_name : Section → List ℕ
section_name names.AmbientDim = ambient_dim
section_name names.Rays = rays_name
section_name names.LinealitySpace = lineality_space
section_name names.MaximalCones = maximal_cones
section_name names.MaximalInteriors = maximal_interiors

-- ---- what is asked of a file

-- the vector isn't in the lineality space
abbrev pub IsOutside : ℕ → List (List ℤ) → List ℤ → Type 0
IsOutside n lineality r = Generated n [] lineality r → ⊥

-- the numbers in a cone are below this one
abbrev pub AreBelow : ℕ → List ℕ → Type 0
AreBelow count numbers = All (λ k. k < count) numbers

-- the rows for its maximal cones; none where it has none
abbrev pub interior_rows : Option (List (List ℤ)) → List (List ℤ)
interior_rows None = []
interior_rows (Some rows) = rows

-- a file whose cones can be built
pub record IsSoundFile (f : FanFile) : Type 0 where
  pub positive : 0 < f.ambient
  pub rays : AreRows f.ambient f.rays
  pub lineality : AreRows f.ambient f.lineality
  pub interiors : AreRows f.ambient (interior_rows f.interiors)
  pub outside : All (IsOutside f.ambient f.lineality) f.rays
  pub below : All (AreBelow (length f.rays)) f.cones

-- an operation of the test of a ray against the lineality space, which is the system of this ray and of the lineality
-- vectors as equations, leaves the range
abbrev pub IsRayTestStep : ℕ → List (List ℤ) → List ℤ → ConeOverflow → Type 0
IsRayTestStep n lineality r step = IsStepOn (length (r ∷ []) + length lineality) n (r ∷ []) lineality step

-- an operation of the test of one of its rays leaves the range
abbrev pub IsTestStep : FanFile → ConeOverflow → Type 0
IsTestStep f step = (r : List ℤ) × (Contains f.rays r × IsRayTestStep f.ambient f.lineality r step)

-- no operation of the tests of its rays leaves the range
abbrev pub AreTestsWithin : FanFile → Type 0
AreTestsWithin f = (r : List ℤ) (step : ConeOverflow) → Contains f.rays r → IsRayTestStep f.ambient f.lineality r step → ⊥

-- ---- the first that isn't so

-- x stands at the place i of these, and P holds of those before
pub record IsBehind {X : Type 0} (P : X → Type 0) (xs : List X) (i : ℕ) (x : X) : Type 0 where
  pub within : i < length xs
  pub here : HoldsAt (λ y. y ≡ x) xs i
  pub before : AllWithin P xs 0 i

-- the first row whose length isn't n is refused so
pub record IsLengthFault (n : ℕ) (rows : List (List ℤ)) (e : FanFileError) : Type 0 where
  pub place : ℕ
  pub row : List ℤ
  pub first : IsBehind (λ (t : List ℤ). length t ≡ n) rows place row
  pub other : length row ≡ n → ⊥
  pub refused : e ≡ errors.Dimensions (length row) n

-- behind rays outside the lineality space this one is refused so: it lies in it, or its test leaves the range
pub record IsRayFault (n : ℕ) (lineality rays : List (List ℤ)) (e : FanFileError) : Type 0 where
  pub place : ℕ
  pub ray : List ℤ
  pub first : IsBehind (IsOutside n lineality) rays place ray
  pub refused : (Generated n [] lineality ray × (e ≡ errors.BadRay place)) ⊎ ((step : ConeOverflow) × IsRayTestStep n lineality ray step ×
      (e ≡ errors.Cone step))

-- the first number in a cone that isn't below this one is refused so
pub record IsNumberFault (count : ℕ) (cones : List (List ℕ)) (e : FanFileError) : Type 0 where
  pub place : ℕ
  pub cone : List ℕ
  pub first : IsBehind (AreBelow count) cones place cone
  pub within : ℕ
  pub number : ℕ
  pub first_within : IsBehind (λ k. k < count) cone within number
  pub above : count ≤ number
  pub refused : e ≡ errors.BadRay number

-- what is asked of this file first and isn't so is refused so
pub data IsFormFault (f : FanFile) (e : FanFileError) : Type 0 where
  zero_dimension : f.ambient ≡ 0 → e ≡ errors.Dimensions 0 1 → IsFormFault f e
  at_rays : 0 < f.ambient → IsLengthFault f.ambient f.rays e → IsFormFault f e
  at_lineality : 0 < f.ambient → AreRows f.ambient f.rays → IsLengthFault f.ambient f.lineality e → IsFormFault f e
  at_interiors : 0 < f.ambient → AreRows f.ambient f.rays → AreRows f.ambient f.lineality → IsLengthFault f.ambient (interior_rows f.interiors) e →
      IsFormFault f e
  at_ray : 0 < f.ambient → AreRows f.ambient f.rays → AreRows f.ambient f.lineality → AreRows f.ambient (interior_rows f.interiors) →
      IsRayFault f.ambient f.lineality f.rays e → IsFormFault f e
  at_number : 0 < f.ambient → AreRows f.ambient f.rays → AreRows f.ambient f.lineality → AreRows f.ambient (interior_rows f.interiors) →
      All (IsOutside f.ambient f.lineality) f.rays → IsNumberFault (length f.rays) f.cones e → IsFormFault f e

-- the text is refused so: it has a fault, and this is the first; its version isn't known; a section isn't there, and this is the first; it
-- says a file, which is refused; or there is no memory
pub data IsFileRefused (source : List ℕ) (e : FanFileError) : Type 0 where
  in_text : IsFirstFault (told_table source) (length source) [] (sections source) e → IsFileRefused source e
  bad_version : (all : Named) (number : ℕ) → AreSectionsOf source all → told_version source ≡ Some number → (number ≡ 1 → ⊥) → (number ≡ 2 → ⊥) →
      e ≡ errors.BadVersion number → IsFileRefused source e
  not_there : (all : Named) (section : Section) → AreSectionsOf source all → IsKnownVersion (told_version source) →
      first_missing (wanted (told_version source)) all ≡ Some (section_name section) → e ≡ errors.Missing section → IsFileRefused source e
  in_form : (f : FanFile) → IsFileOf source f → IsFormFault f e → IsFileRefused source e
  no_memory : e ≡ errors.Memory → IsFileRefused source e

-- it says that an operation leaves the range, or that there is no memory; what else it says, it says of the text alone
abbrev pub IsOfLimits : FanFileError → Type 0
IsOfLimits (errors.Cone step) = Unit {0}
IsOfLimits (errors.Wide step) = Unit {0}
IsOfLimits errors.Memory = Unit {0}
IsOfLimits _ = ⊥
