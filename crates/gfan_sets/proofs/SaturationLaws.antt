-- What `_saturation` answers and why it doesn't; its source is answered in one way.
-- To cite: saturation_answered, saturation_unanswered, basis_named; saturation_lawful. The rest are steps.
use Rattle.std.specs.Prelude.{◌≡◌, ℕ, false, List, [], ◌∷◌, length, Err, None}
use Rattle.std.proofs.Common.{refl, sym, ap, ◌∙◌, subst}
use Rattle.gf_poly.specs.Polynomial.{Terms}
use Rattle.gf_poly.specs.Marking.{MarkedPolynomials}
use Rattle.gf_buchberger.specs.declared.bases.BasisError.{BasisError}
use Rattle.gf_saturate.specs.Saturating.{IsSaturation, IsSaturateRefusal}
use Rattle.gf_saturate.proofs.StageLaws.{if_memory}
use Rattle.gf_text.specs.declared.written.Written.{Written}
use Rattle.gf_front.specs.declared.options.SaturationOptions.{SaturationOptions}
use Rattle.gf_items.specs.Kinds.{a_set, vector_where}
use Rattle.gf_items.specs.Refusals.{IsOfTest, IsOfWork}
use Rattle.gf_items.proofs.KindLaws.{ring_and_once}
use Rattle.gf_frame.specs.Commands.{IsAnswerFor, IsUnanswered}
use Rattle.gf_frame.proofs.CommandLaws.{IsLawful}
use Rattle.gf_frame.proofs.ReadingLaws.{one_once}
use Rattle.gf_frame.proofs.SoundLaws.{IsExactCommand, untested, sound_lawful}
use Rattle.gfan_common.specs.Forms.{generators_of}
use Rattle.gfan_common.specs.Causes.{of_basis}
use Rattle.gfan_common.specs.Printing.{IsPrinted}
use Rattle.gfan_common.specs.Refused.{IsNamedBy}
use Rattle.gfan_sets.specs.Saturation.{saturation_command}
use Rattle.gfan_common.proofs.CauseLaws.{unnamed_basis, basis_work, basis_not_listed, basis_untested}

-- ---- for what is read

pub saturation_answered : (o : SaturationOptions) (n : ℕ) (ring : List (List ℕ)) (ws : List Written) (fs : List Terms) (s : MarkedPolynomials) (text : List ℕ) →
    n ≡ length ring → fs ≡ generators_of ws → IsSaturation n fs s → IsPrinted ring s text → IsAnswerFor (saturation_command o) (ring, (ws, None)) text
saturation_answered o n ring ws fs s text p q h t = record {
  formed = tt;
  is_answer = record {
    saturation = s;
    is_saturation = subst (λ (k : ℕ). IsSaturation k (generators_of ws) s) p (subst (λ (gs : List Terms). IsSaturation n gs s) q h);
    is_text = t;
  };
}

pub saturation_unanswered : (o : SaturationOptions) (n : ℕ) (ring : List (List ℕ)) (ws : List Written) (fs : List Terms) (e : BasisError) → n ≡ length ring →
    fs ≡ generators_of ws → IsSaturateRefusal n fs o.pairs e → IsUnanswered (saturation_command o) (ring, (ws, None)) (of_basis e)
saturation_unanswered o n ring ws fs e p q h =
    IsUnanswered.in_work tt (
      e,
      refl,
      subst (λ (k : ℕ). IsSaturateRefusal k (generators_of ws) o.pairs e) p
          (subst (λ (gs : List Terms). IsSaturateRefusal n gs o.pairs e) q h),
    )

pub basis_named : (e : BasisError) → IsNamedBy None (of_basis e)
basis_named e = (unnamed_basis e).named

-- ---- a source is answered in one way

saturation_exact : (o : SaturationOptions) → IsExactCommand (saturation_command o)
saturation_exact o = record {
  reading = one_once _ (ring_and_once a_set (vector_where false ∷ []));
  checks = λ texts v h. tt;
  work = λ v r h. subst IsOfWork (sym h.1) (basis_work h.0);
  within = λ v r w h. h.1 ∙ ap of_basis (if_memory {A = Unit {0}} (length v.0) o.pairs (generators_of v.1.0) (Err h.0) w h.2);
}

pub saturation_lawful : (o : SaturationOptions) → IsLawful (saturation_command o)
saturation_lawful o =
    let c = saturation_command o in
    sound_lawful c (saturation_exact o) (untested c (λ v r t h. basis_untested h.0 (subst IsOfTest h.1 t))) (λ h. h) (λ t. t)
    (λ a m w. basis_not_listed w.0 m w.1)
