-- The fans of polynomials that are read, and that a source is answered in one way.
-- To cite: generators_read, no_first_zero, fan_unanswered, text_unanswered; tropical_exact, tropical_tested, tropical_not_listed. The rest are steps.
use Rattle.std.specs.Prelude.{◌≡◌, ◌≢◌, ℕ, false, All, List, [], ◌∷◌, length, map, None}
use Rattle.std.proofs.Common.{refl, sym, ap, ◌∙◌, subst, inr}
use Rattle.gf_vec.specs.declared.error.VecError.{VecError}
use Rattle.gf_vec.specs.declared.error.VecError.TheVariants as vec_errors
use Rattle.gf_vec.specs.Steps.{IfWide}
use Rattle.gf_fan.specs.FanLists.{FanLists}
use Rattle.gf_fan_files.specs.FanTexts.{IsWritingStep}
use Rattle.gf_poly.specs.Polynomial.{Terms}
use Rattle.gf_poly.specs.Marking.{MarkedPolynomial, polys}
use Rattle.gf_tropical.specs.declared.error.TropicalError.{TropicalError}
use Rattle.gf_tropical.specs.declared.error.TropicalError.TheVariants as tropical_errors
use Rattle.gf_tropical.specs.Refusals.{IsTropicalRefusal, IsFirstZeroPolynomial}
use Rattle.gf_text.specs.declared.written.Written.{Written}
use Rattle.gf_text.specs.declared.written.Written.TheVariants as written
use Rattle.gf_text.specs.Sets.{AreNonzero}
use Rattle.gf_front.specs.declared.refusal.Refusal.{Refusal}
use Rattle.gf_front.specs.declared.refusal.Refusal.TheVariants as refusals
use Rattle.gf_items.specs.Kinds.{a_set, vector_where}
use Rattle.gf_items.specs.Checks.{AllHold}
use Rattle.gf_items.specs.Refusals.{IsExactRefusal, IsOfTest, IsOfWork}
use Rattle.gf_frame.specs.Commands.{IsUnanswered}
use Rattle.gf_items.proofs.CheckLaws.{IsCheckedOnce}
use Rattle.gf_items.proofs.KindLaws.{ring_and_once}
use Rattle.gf_frame.proofs.ReadingLaws.{one_once}
use Rattle.gf_frame.proofs.SoundLaws.{IsExactCommand, IsTestedCommand, untested}
use Rattle.gfan_fans.specs.declared.tropical.TropicalFan.{TropicalFan}
use Rattle.gfan_fans.specs.declared.tropical.TropicalFan.TheVariants as fans
use Rattle.gfan_common.specs.Forms.{generators_of}
use Rattle.gfan_fans.specs.FanTexts.{of_writing}
use Rattle.gfan_common.specs.ToolForms.{HasNoZero}
use Rattle.gfan_fans.specs.Tropical.{HasNumber, IsNumberRefusal, for_number, systems_of, IsTropicalStep, IsFanOfPolynomials, IsNoTropicalText, IsTropicalWithin}
use Rattle.gfan_fans.specs.Tropical.{of_tropical, tropical_command}
use Rattle.gfan_common.proofs.ToolFormLaws.{zero_check}

-- ---- the form

number_check : (which : TropicalFan) (count : ℕ) → IsCheckedOnce (for_number which count)
number_check fans.Hypersurface count = record { once = once; apart = apart; kind = kind }
  where
    once : (r d : Refusal) → IsNumberRefusal fans.Hypersurface count r → IsNumberRefusal fans.Hypersurface count d → d ≡ r
    once (refusals.Dimensions l m) (refusals.Dimensions i j) h k =
        ap (λ z. refusals.Dimensions z j) (k.0 ∙ sym h.0) ∙ ap (λ z. refusals.Dimensions l z) (k.1 ∙ sym h.1)
    once (refusals.Dimensions l m) _ h k = absurd k
    once _ d h k = absurd h

    apart : (r : Refusal) → count ≡ 1 → IsNumberRefusal fans.Hypersurface count r → ⊥
    apart (refusals.Dimensions l m) s h = h.2 s
    apart _ s h = h

    kind : (r : Refusal) → IsNumberRefusal fans.Hypersurface count r → IsExactRefusal r
    kind (refusals.Dimensions l m) h = inr tt
    kind _ h = absurd h
number_check fans.Intersection count = record { once = λ r d h k. absurd h; apart = λ r s h. h; kind = λ r h. absurd h }
number_check fans.MinkowskiSum count = record { once = λ r d h k. absurd h; apart = λ r s h. h; kind = λ r h. absurd h }

-- ---- the polynomials

generators_nonzero : (ms : List MarkedPolynomial) → generators_of (map (λ m. written.Nonzero m) ms) ≡ polys ms
generators_nonzero [] = refl
generators_nonzero (m ∷ ms) = ap (λ (fs : List Terms). m.poly ∷ fs) (generators_nonzero ms)

-- those of a set of which none is zero
pub generators_read : (ws : List Written) (ms : List MarkedPolynomial) → AreNonzero ws ms → generators_of ws ≡ polys ms
generators_read ws ms a = ap generators_of a ∙ generators_nonzero ms

-- ---- for what is read

formed : (which : TropicalFan) (ring : List (List ℕ)) (ws : List Written) (count : ℕ) → count ≡ length ws → HasNumber which count → HasNoZero ws →
    AllHold ((tropical_command which).checks (ring, (ws, None)))
formed which ring ws count e l z = (subst (HasNumber which) e l, (z, tt))

-- where none is zero, none is the first that is
pub no_first_zero : (fs : List Terms) (index : ℕ) → All (λ f. f ≢ []) fs → IsFirstZeroPolynomial fs index → ⊥
no_first_zero fs index some h = some index _ h.inside h.zero

pub fan_unanswered : (which : TropicalFan) (ring : List (List ℕ)) (ws : List Written) (count n : ℕ) (fs gs : List Terms) (e : TropicalError) →
    count ≡ length ws → HasNumber which count → HasNoZero ws
    → n ≡ length ring → gs ≡ fs → fs ≡ generators_of ws → All (λ f. f ≢ []) fs → IsTropicalRefusal (systems_of which) n gs e →
    IsUnanswered (tropical_command which) (ring, (ws, None)) (of_tropical e)
fan_unanswered which ring ws count n fs gs (tropical_errors.Cone o) e l z m p q some h =
    IsUnanswered.in_work (formed which ring ws count e l z)
    (IsNoTropicalText.in_system o (subst (λ k. IsTropicalStep which k (generators_of ws) o) m (subst (λ (x : List Terms). IsTropicalStep which n x o)
    (p ∙ q) h.1)) refl)
fan_unanswered which ring ws count n fs gs (tropical_errors.ZeroPolynomial set index) e l z m p q some h =
    absurd (no_first_zero gs index (subst (All (λ (f : Terms). f ≢ [])) (sym p) some) h.1)
fan_unanswered which ring ws count n fs gs tropical_errors.Memory e l z m p q some h = IsUnanswered.no_memory refl

-- the fan is found, and isn't written
pub text_unanswered : (which : TropicalFan) (ring : List (List ℕ)) (ws : List Written) (count n : ℕ) (fs gs : List Terms) (h : FanLists) (v : VecError) →
    count ≡ length ws → HasNumber which count → HasNoZero ws
    → n ≡ length ring → gs ≡ fs → fs ≡ generators_of ws → IsFanOfPolynomials which n gs h → IfWide (IsWritingStep h) v →
    IsUnanswered (tropical_command which) (ring, (ws, None)) (of_writing v)
text_unanswered which ring ws count n fs gs h (vec_errors.Wide w) e l z m p q i step =
    IsUnanswered.in_work (formed which ring ws count e l z)
    (IsNoTropicalText.too_wide h w (subst (λ k. IsFanOfPolynomials which k (generators_of ws) h) m (subst (λ (x : List Terms). IsFanOfPolynomials which n x h)
    (p ∙ q) i)) step refl)
text_unanswered which ring ws count n fs gs h vec_errors.Memory e l z m p q i step = IsUnanswered.no_memory refl

-- ---- a source is answered in one way

tropical_work : (which : TropicalFan) (n : ℕ) (fs : List Terms) (r : Refusal) → IsNoTropicalText which n fs r → IsOfWork r
tropical_work which n fs r (IsNoTropicalText.in_system o h q) = subst IsOfWork (sym q) tt
tropical_work which n fs r (IsNoTropicalText.too_wide f w i h q) = subst IsOfWork (sym q) tt
tropical_work which n fs r (IsNoTropicalText.no_memory q) = subst IsOfWork (sym q) tt

tropical_within : (which : TropicalFan) (n : ℕ) (fs : List Terms) (r : Refusal) → IsTropicalWithin which n fs → IsNoTropicalText which n fs r →
    r ≡ refusals.Memory
tropical_within which n fs r w (IsNoTropicalText.in_system o h q) = absurd (w.systems o h)
tropical_within which n fs r w (IsNoTropicalText.too_wide f x i h q) = absurd (w.writing f i x h)
tropical_within which n fs r w (IsNoTropicalText.no_memory q) = q

tropical_untested : (which : TropicalFan) (n : ℕ) (fs : List Terms) (r : Refusal) → IsOfTest r → IsNoTropicalText which n fs r → ⊥
tropical_untested which n fs r t (IsNoTropicalText.in_system o h q) = subst IsOfTest q t
tropical_untested which n fs r t (IsNoTropicalText.too_wide f w i h q) = subst IsOfTest q t
tropical_untested which n fs r t (IsNoTropicalText.no_memory q) = subst IsOfTest q t

pub tropical_not_listed : (which : TropicalFan) (n : ℕ) (fs : List Terms) (most : ℕ) → IsNoTropicalText which n fs (refusals.ListLimit most) → ⊥
tropical_not_listed which n fs most (IsNoTropicalText.in_system o h q) = cc
tropical_not_listed which n fs most (IsNoTropicalText.too_wide f w i h q) = cc
tropical_not_listed which n fs most (IsNoTropicalText.no_memory q) = cc

pub tropical_exact : (which : TropicalFan) → IsExactCommand (tropical_command which)
tropical_exact which = record {
  reading = one_once _ (ring_and_once a_set (vector_where false ∷ []));
  checks = λ texts v h. (number_check which (length v.1.0), (zero_check v.1.0, tt));
  work = λ v r h. tropical_work which (length v.0) (generators_of v.1.0) r h;
  within = λ v r w h. tropical_within which (length v.0) (generators_of v.1.0) r w h;
}

pub tropical_tested : (which : TropicalFan) → IsTestedCommand (tropical_command which)
tropical_tested which = untested (tropical_command which) (λ v r t h. tropical_untested which (length v.0) (generators_of v.1.0) r t h)
