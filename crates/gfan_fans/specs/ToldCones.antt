-- The descriptions of cones by `_groebnercone`: sections, or the fan of all faces; and why they are refused.
use Rattle.std.specs.Prelude.{◌≡◌, ℕ, Bool, true, false, List, [], ◌∷◌, ℤ}
use Rattle.gf_gordan.specs.declared.error.ConeOverflow.{ConeOverflow}
use Rattle.gf_rays.specs.Cones.{RowsAndRays}
use Rattle.gf_cone.specs.Cones.{ConeRows, all_rows}
use Rattle.gf_sections.specs.declared.error.SectionsError.{SectionsError}
use Rattle.gf_sections.specs.declared.error.SectionsError.TheVariants as sections_errors
use Rattle.gf_sections.specs.ConeByRows.{IsConeByRows, IsByRowsStep}
use Rattle.gf_sections.specs.ConeText.{IsConeText, IsConeCause, IsConeWithinLimits}
use Rattle.gf_front.specs.declared.options.GroebnerConeOptions.{GroebnerConeOptions}
use Rattle.gf_front.specs.declared.refusal.Refusal.{Refusal}
use Rattle.gf_front.specs.declared.refusal.Refusal.TheVariants as refusals
use Rattle.gf_fan_files.specs.FanTexts.{IsFanText}
use Rattle.gfan_fans.specs.FanTexts.{IsNoFanText, IsFanOfConesWithin}
use Rattle.gfan_fans.specs.ToPolyhedralFan.{inequalities_of}

-- the refusal of the sections of a cone, as one of the run
abbrev pub of_sections : SectionsError → Refusal
of_sections (sections_errors.Cone o) = refusals.ConeOverflow o.row o.op o.left o.right
of_sections (sections_errors.Wide w) = refusals.WideVector w
of_sections sections_errors.Memory = refusals.Memory

-- the rows of the cone of a marked set: its normals, and if it is intersected with a region, also the rows of that
abbrev pub cut_of : Bool → ConeRows → List (List ℤ)
cut_of false c = c.normals
cut_of true c = all_rows c

-- ---- the fan of all faces of a cone

-- the text is that of the fan of all faces of the cone of these inequalities and equations in n variables
pub record IsConeFanText (n : ℕ) (inequalities equations : List (List ℤ)) (text : List ℕ) : Type 0 where
  pub cone : RowsAndRays
  pub is_cone : IsConeByRows n inequalities equations cone
  pub fan : IsFanText n (cone ∷ []) text

-- the rays of the cone aren't found; or they are, and its fan isn't found or isn't written; or memory runs out
pub data IsConeFanCause (n : ℕ) (inequalities equations : List (List ℤ)) (r : Refusal) : Type 0 where
  at_rays : (o : ConeOverflow) → IsByRowsStep n inequalities equations o → r ≡ refusals.ConeOverflow o.row o.op o.left o.right →
      IsConeFanCause n inequalities equations r
  at_fan : (c : RowsAndRays) → IsConeByRows n inequalities equations c → IsNoFanText n (c ∷ []) r → IsConeFanCause n inequalities equations r
  no_memory : r ≡ refusals.Memory → IsConeFanCause n inequalities equations r

-- no operation of finding the rays of the cone leaves its range, nor does one of finding its fan or of writing it
pub record IsConeFanWithin (n : ℕ) (inequalities equations : List (List ℤ)) : Type 0 where
  pub rays : (o : ConeOverflow) → IsByRowsStep n inequalities equations o → ⊥
  pub fan : (c : RowsAndRays) → IsConeByRows n inequalities equations c → IsFanOfConesWithin n (c ∷ [])

-- ---- the description of a cone

-- the text describes the cone of these inequalities and equations: as a fan, or in sections, with or without certificates
abbrev pub IsToldAs : Bool → Bool → ℕ → List (List ℤ) → List (List ℤ) → List ℕ → Type 0
IsToldAs false certified n inequalities equations text = IsConeText n certified inequalities equations text
IsToldAs true certified n inequalities equations text = IsConeFanText n inequalities equations text

-- why this description is refused
abbrev pub IsUntoldAs : Bool → Bool → ℕ → List (List ℤ) → List (List ℤ) → Refusal → Type 0
IsUntoldAs false certified n inequalities equations r = (e : SectionsError) × (r ≡ of_sections e) × IsConeCause n certified inequalities equations e
IsUntoldAs true certified n inequalities equations r = IsConeFanCause n inequalities equations r

-- no operation of this description leaves its range
abbrev pub IsToldWithin : Bool → Bool → ℕ → List (List ℤ) → List (List ℤ) → Type 0
IsToldWithin false certified n inequalities equations = IsConeWithinLimits n certified inequalities equations
IsToldWithin true certified n inequalities equations = IsConeFanWithin n inequalities equations

-- the text describes, as the options say, the cone of these inequalities and equations; the unit vectors are further inequalities if the
-- cone is intersected with the non-negative orthant
abbrev pub IsConeTold : GroebnerConeOptions → ℕ → List (List ℤ) → List (List ℤ) → List ℕ → Type 0
IsConeTold o n inequalities equations text = IsToldAs o.as_fan o.certificates n (inequalities_of o.restricted n inequalities) equations text

-- why this description is refused
abbrev pub IsUntold : GroebnerConeOptions → ℕ → List (List ℤ) → List (List ℤ) → Refusal → Type 0
IsUntold o n inequalities equations r = IsUntoldAs o.as_fan o.certificates n (inequalities_of o.restricted n inequalities) equations r

-- no operation of this description leaves its range
abbrev pub IsTellingWithin : GroebnerConeOptions → ℕ → List (List ℤ) → List (List ℤ) → Type 0
IsTellingWithin o n inequalities equations = IsToldWithin o.as_fan o.certificates n (inequalities_of o.restricted n inequalities) equations
