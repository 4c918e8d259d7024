-- Why cones have no fan, as a refusal of the run; and there is a fan within its limits.
-- To cite: meeting_refutes, fan_within, text_unwritten, text_within, text_work, text_not_listed, text_named. The rest are steps.
use Rattle.std.specs.Prelude.{◌≡◌, ℕ, List, Option}
use Rattle.std.proofs.Common.{refl, sym, ap, ◌∙◌, subst}
use Rattle.gf_vec.specs.declared.error.VecError.{VecError}
use Rattle.gf_vec.specs.declared.error.VecError.TheVariants as vec_errors
use Rattle.gf_vec.specs.Steps.{IfWide}
use Rattle.gf_rays.specs.Cones.{RowsAndRays}
use Rattle.gf_fan.specs.declared.error.FanError.{FanError}
use Rattle.gf_fan.specs.declared.error.FanError.TheVariants as fan_errors
use Rattle.gf_fan.specs.FanLists.{FanLists}
use Rattle.gf_fan.specs.FansOfCones.{IsFanOf}
use Rattle.gf_fan.specs.Pairs.{AreMeeting, IsFirstPair}
use Rattle.gf_fan.specs.Refusals.{IsFanRefusal, IsFanWithinLimits}
use Rattle.gf_fan_files.specs.FanTexts.{IsWritingStep}
use Rattle.gf_front.specs.declared.refusal.Refusal.{Refusal}
use Rattle.gf_front.specs.declared.refusal.Refusal.TheVariants as refusals
use Rattle.gf_items.specs.Refusals.{IsOfWork}
use Rattle.gfan_fans.specs.FanTexts.{of_fan, of_writing, IsNoFanText, IsFanOfConesWithin}
use Rattle.gfan_common.specs.Refused.{IsNamedBy}

-- cones that meet in faces have no pair that doesn't
pub meeting_refutes : (n : ℕ) (cones : List RowsAndRays) (i j : ℕ) → AreMeeting n cones → IsFirstPair n cones i j → ⊥
meeting_refutes n cones i j m h = h.after.clash (λ d. m i j d h.after.ordered h.after.inside)

-- within limits they have a fan, unless there is no memory
pub fan_within : (n : ℕ) (cones : List RowsAndRays) (e : FanError) → IsFanWithinLimits n cones → AreMeeting n cones → IsFanRefusal n cones e →
    e ≡ fan_errors.Memory
fan_within n cones (fan_errors.Cone o) w m h = absurd (w o h)
fan_within n cones (fan_errors.NotAFan i j) w m h = absurd (meeting_refutes n cones i j m h)
fan_within n cones fan_errors.Memory w m h = refl

fan_work : (e : FanError) → IsOfWork (of_fan e)
fan_work (fan_errors.Cone o) = tt
fan_work (fan_errors.NotAFan i j) = tt
fan_work fan_errors.Memory = tt

fan_not_listed : (e : FanError) (most : ℕ) → refusals.ListLimit most ≡ of_fan e → ⊥
fan_not_listed (fan_errors.Cone o) most q = cc
fan_not_listed (fan_errors.NotAFan i j) most q = cc
fan_not_listed fan_errors.Memory most q = cc

-- it names no monomials
fan_named : (ring : Option (List (List ℕ))) (e : FanError) → IsNamedBy ring (of_fan e)
fan_named ring (fan_errors.Cone o) = λ lent is. tt
fan_named ring (fan_errors.NotAFan i j) = λ lent is. tt
fan_named ring fan_errors.Memory = λ lent is. tt

-- ---- the text of their fan

-- it isn't written
pub text_unwritten : (n : ℕ) (cones : List RowsAndRays) (f : FanLists) (v : VecError) (r : Refusal) → IsFanOf n cones f → IfWide (IsWritingStep f) v →
    r ≡ of_writing v → IsNoFanText n cones r
text_unwritten n cones f (vec_errors.Wide w) r i h q = IsNoFanText.too_wide f w i h q
text_unwritten n cones f vec_errors.Memory r i h q = IsNoFanText.no_memory q

pub text_within : (n : ℕ) (cones : List RowsAndRays) (r : Refusal) → IsFanOfConesWithin n cones → AreMeeting n cones → IsNoFanText n cones r →
    r ≡ refusals.Memory
text_within n cones r w m (IsNoFanText.no_fan e h q) = q ∙ ap of_fan (fan_within n cones e w.finding m h)
text_within n cones r w m (IsNoFanText.too_wide f x i h q) = absurd (w.writing f i x h)
text_within n cones r w m (IsNoFanText.no_memory q) = q

pub text_work : (n : ℕ) (cones : List RowsAndRays) (r : Refusal) → IsNoFanText n cones r → IsOfWork r
text_work n cones r (IsNoFanText.no_fan e h q) = subst IsOfWork (sym q) (fan_work e)
text_work n cones r (IsNoFanText.too_wide f w i h q) = subst IsOfWork (sym q) tt
text_work n cones r (IsNoFanText.no_memory q) = subst IsOfWork (sym q) tt

pub text_not_listed : (n : ℕ) (cones : List RowsAndRays) (most : ℕ) → IsNoFanText n cones (refusals.ListLimit most) → ⊥
text_not_listed n cones most (IsNoFanText.no_fan e h q) = fan_not_listed e most q
text_not_listed n cones most (IsNoFanText.too_wide f w i h q) = cc
text_not_listed n cones most (IsNoFanText.no_memory q) = cc

pub text_named : (ring : Option (List (List ℕ))) (n : ℕ) (cones : List RowsAndRays) (r : Refusal) → IsNoFanText n cones r → IsNamedBy ring r
text_named ring n cones r (IsNoFanText.no_fan e h q) = subst (IsNamedBy ring) (sym q) (fan_named ring e)
text_named ring n cones r (IsNoFanText.too_wide f w i h q) = subst (IsNamedBy ring) (sym q) (λ lent is. tt)
text_named ring n cones r (IsNoFanText.no_memory q) = subst (IsNamedBy ring) (sym q) (λ lent is. tt)
