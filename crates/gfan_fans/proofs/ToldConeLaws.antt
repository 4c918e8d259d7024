-- What is told of a cone, and that only numbers keep it from being told.
-- To cite: untold_numbers, untold_within, rays_untold, fan_untold. The rest are steps.
use Rattle.std.specs.Prelude.{◌≡◌, ℕ, Bool, true, false, List, [], ◌∷◌, ℤ}
use Rattle.std.proofs.Common.{sym, ap, ◌∙◌, subst}
use Rattle.gf_gordan.specs.declared.error.GordanError.{GordanError}
use Rattle.gf_gordan.specs.declared.error.GordanError.TheVariants as gordan_errors
use Rattle.gf_gordan.specs.Steps.{Failed}
use Rattle.gf_rays.specs.Cones.{RowsAndRays}
use Rattle.gf_sections.specs.declared.error.SectionsError.{SectionsError}
use Rattle.gf_sections.specs.declared.error.SectionsError.TheVariants as sections_errors
use Rattle.gf_sections.specs.ConeByRows.{IsConeByRows, IsByRowsStep}
use Rattle.gf_fan.specs.declared.error.FanError.{FanError}
use Rattle.gf_fan.specs.declared.error.FanError.TheVariants as fan_errors
use Rattle.gf_fan.specs.Refusals.{IsFanRefusal}
use Rattle.gf_front.specs.declared.refusal.Refusal.{Refusal}
use Rattle.gf_front.specs.declared.refusal.Refusal.TheVariants as refusals
use Rattle.gf_items.specs.Refusals.{IsOfNumbers}
use Rattle.gfan_common.specs.Causes.{of_gordan}
use Rattle.gfan_fans.specs.FanTexts.{of_fan, IsNoFanText}
use Rattle.gfan_fans.specs.ToldCones.{of_sections, IsConeFanCause, IsConeFanWithin, IsUntoldAs, IsToldWithin}
use Rattle.gfan_fans.proofs.FanTextLaws.{meeting_refutes, text_within}
use Rattle.gfan_fans.proofs.HomogeneitySpaceLaws.{one_meets}

-- ---- a cone that isn't told

sections_numbers : (e : SectionsError) → IsOfNumbers (of_sections e)
sections_numbers (sections_errors.Cone o) = tt
sections_numbers (sections_errors.Wide w) = tt
sections_numbers sections_errors.Memory = tt

fan_numbers : (n : ℕ) (c : RowsAndRays) (e : FanError) → IsFanRefusal n (c ∷ []) e → IsOfNumbers (of_fan e)
fan_numbers n c (fan_errors.Cone o) h = tt
fan_numbers n c (fan_errors.NotAFan i j) h = absurd (meeting_refutes n (c ∷ []) i j (one_meets n c) h)
fan_numbers n c fan_errors.Memory h = tt

text_numbers : (n : ℕ) (c : RowsAndRays) (r : Refusal) → IsNoFanText n (c ∷ []) r → IsOfNumbers r
text_numbers n c r (IsNoFanText.no_fan e h q) = subst IsOfNumbers (sym q) (fan_numbers n c e h)
text_numbers n c r (IsNoFanText.too_wide f w i h q) = subst IsOfNumbers (sym q) tt
text_numbers n c r (IsNoFanText.no_memory q) = subst IsOfNumbers (sym q) tt

cone_fan_numbers : (n : ℕ) (hs es : List (List ℤ)) (r : Refusal) → IsConeFanCause n hs es r → IsOfNumbers r
cone_fan_numbers n hs es r (IsConeFanCause.at_rays o h q) = subst IsOfNumbers (sym q) tt
cone_fan_numbers n hs es r (IsConeFanCause.at_fan c k h) = text_numbers n c r h
cone_fan_numbers n hs es r (IsConeFanCause.no_memory m) = subst IsOfNumbers (sym m) tt

pub untold_numbers : (as_fan certified : Bool) (n : ℕ) (hs es : List (List ℤ)) (r : Refusal) → IsUntoldAs as_fan certified n hs es r → IsOfNumbers r
untold_numbers false certified n hs es r h = subst IsOfNumbers (sym h.1) (sections_numbers h.0)
untold_numbers true certified n hs es r h = cone_fan_numbers n hs es r h

cone_fan_memory : (n : ℕ) (hs es : List (List ℤ)) (r : Refusal) → IsConeFanWithin n hs es → IsConeFanCause n hs es r → r ≡ refusals.Memory
cone_fan_memory n hs es r w (IsConeFanCause.at_rays o h q) = absurd (w.rays o h)
cone_fan_memory n hs es r w (IsConeFanCause.at_fan c k h) = text_within n (c ∷ []) r (w.fan c k) (one_meets n c) h
cone_fan_memory n hs es r w (IsConeFanCause.no_memory m) = m

pub untold_within : (as_fan certified : Bool) (n : ℕ) (hs es : List (List ℤ)) (r : Refusal) → IsToldWithin as_fan certified n hs es →
    IsUntoldAs as_fan certified n hs es r → r ≡ refusals.Memory
untold_within false certified n hs es r w h = h.1 ∙ ap of_sections (w h.0 h.2)
untold_within true certified n hs es r w h = cone_fan_memory n hs es r w h

-- by the answers of the calls
pub rays_untold : (n : ℕ) (hs es : List (List ℤ)) (e : GordanError) (r : Refusal) → Failed (IsByRowsStep n hs es) e → r ≡ of_gordan e → IsConeFanCause n hs es r
rays_untold n hs es (gordan_errors.Cone o) r h q = IsConeFanCause.at_rays o h q
rays_untold n hs es gordan_errors.Memory r h q = IsConeFanCause.no_memory q

pub fan_untold : (n : ℕ) (hs es : List (List ℤ)) (c : RowsAndRays) (cones : List RowsAndRays) (r : Refusal) → IsConeByRows n hs es c → cones ≡ c ∷ [] →
    IsNoFanText n cones r → IsConeFanCause n hs es r
fan_untold n hs es c cones r h p f = IsConeFanCause.at_fan c h (subst (λ (cs : List RowsAndRays). IsNoFanText n cs r) p f)
