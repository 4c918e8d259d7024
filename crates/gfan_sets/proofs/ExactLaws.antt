-- Commands whose refusals are each told in one way.
-- To cite: buchberger_exact, marked_exact, containment_exact, leading_lawful, leading_source, leading_once, containment_tested. The rest are steps.
use Rattle.std.specs.Prelude.{◌≡◌, Bool, true, false, [], ◌∷◌, length}
use Rattle.std.proofs.Common.{refl, sym, ap, ◌∙◌, subst}
use Rattle.gf_front.specs.declared.options.BuchbergerOptions.{BuchbergerOptions}
use Rattle.gf_front.specs.declared.options.LeadingTermsOptions.{LeadingTermsOptions}
use Rattle.gf_items.specs.Items.{from}
use Rattle.gf_items.specs.Sources.{ring_set_vector, ring_marked_set_and_set}
use Rattle.gf_items.specs.Refusals.{IsOfWork}
use Rattle.gf_items.specs.Kinds.{a_set, a_marked_set, marked_set_list, vector_where}
use Rattle.gf_items.proofs.KindLaws.{ring_and_once}
use Rattle.gf_frame.specs.Loading.{Origin}
use Rattle.gf_frame.specs.Commands.{WritesOnce}
use Rattle.gf_frame.proofs.ReadingLaws.{one_once, of_one_text}
use Rattle.gf_frame.proofs.CommandLaws.{IsLawful}
use Rattle.gf_frame.proofs.SoundLaws.{IsExactCommand, IsTestedCommand, untested, sound_lawful}
use Rattle.gfan_common.specs.Causes.{of_basis}
use Rattle.gfan_common.specs.Forms.{generators_of}
use Rattle.gfan_sets.specs.Buchberger.{buchberger_command}
use Rattle.gfan_sets.specs.LeadingTerms.{leading_command, leading_terms_command}
use Rattle.gfan_common.specs.CheckedSets.{of_check}
use Rattle.gfan_sets.specs.Marked.{marked_command}
use Rattle.gfan_sets.specs.Containment.{containment_command}
use Rattle.gfan_common.proofs.FormLaws.{form_once}
use Rattle.gfan_common.proofs.CauseLaws.{basis_work, memory_untested}
use Rattle.gfan_common.proofs.ReadSetLaws.{set_kept}
use Rattle.gfan_common.proofs.CheckedSetLaws.{check_work}
use Rattle.gfan_sets.proofs.ContainmentLaws.{containment_work, containment_within, containment_once, containment_refuses}

-- ---- `_buchberger`

pub buchberger_exact : (o : BuchbergerOptions) → IsExactCommand (buchberger_command o)
buchberger_exact o = record {
  reading = one_once _ (ring_and_once a_set (vector_where o.weighted ∷ []));
  checks = λ texts v h. of_one_text (ring_set_vector o.weighted) _ texts v h (λ source r. form_once o.revlex (length v.0) v.1.1 (generators_of v.1.0)
      (set_kept v.0 (from source r.read.behind) r.read.two.behind v.1.0 r.read.two.one));
  work = λ v r h. subst IsOfWork (sym h.1) (basis_work h.0);
  within = λ v r w h. h.1 ∙ ap of_basis (h.3 w);
}

-- ---- `_ismarkedgroebnerbasis`

pub marked_exact : IsExactCommand marked_command
marked_exact = record {
  reading = one_once _ (ring_and_once a_marked_set []);
  checks = λ texts v h. tt;
  work = λ v r h. subst IsOfWork (sym h.1) (check_work h.0);
  within = λ v r w h. h.1 ∙ ap of_check (w h.0 h.2);
}

-- ---- `_doesidealcontain`

pub containment_exact : IsExactCommand containment_command
containment_exact = record {
  reading = one_once _ (ring_and_once a_marked_set (a_set ∷ []));
  checks = λ texts v h. tt;
  work = λ v r h. containment_work v.1.0 (generators_of v.1.1) r h;
  within = λ v r w h. containment_within v.1.0 (generators_of v.1.1) r w h;
}

-- ---- `_leadingterms`

leading_exact : (listed : Bool) → IsExactCommand (leading_command listed)
leading_exact false = record {
  reading = one_once _ (ring_and_once a_marked_set []);
  checks = λ texts v h. tt;
  work = λ v r h. subst IsOfWork (sym h) tt;
  within = λ v r w h. h;
}
leading_exact true = record {
  reading = one_once _ (ring_and_once marked_set_list []);
  checks = λ texts v h. tt;
  work = λ v r h. subst IsOfWork (sym h) tt;
  within = λ v r w h. h;
}

leading_lawful_by : (listed : Bool) → IsLawful (leading_command listed)
leading_lawful_by false = sound_lawful (leading_command false) (leading_exact false) (untested (leading_command false) (λ v r t h. memory_untested r t h))
    (λ h. h) (λ t. t) (λ a m w. cc)
leading_lawful_by true = sound_lawful (leading_command true) (leading_exact true) (untested (leading_command true) (λ v r t h. memory_untested r t h)) (λ h. h)
    (λ t. t) (λ a m w. cc)

leading_source_by : (listed : Bool) → (leading_command listed).reads ≡ Origin.the_input ∷ []
leading_source_by false = refl
leading_source_by true = refl

leading_once_by : (listed : Bool) → WritesOnce (leading_command listed).writing
leading_once_by false = tt
leading_once_by true = tt

pub leading_lawful : (o : LeadingTermsOptions) → IsLawful (leading_terms_command o)
leading_lawful o = leading_lawful_by o.listed

pub leading_source : (o : LeadingTermsOptions) → (leading_terms_command o).reads ≡ Origin.the_input ∷ []
leading_source o = leading_source_by o.listed

pub leading_once : (o : LeadingTermsOptions) → WritesOnce (leading_terms_command o).writing
leading_once o = leading_once_by o.listed

-- ---- tests that take work

pub containment_tested : IsTestedCommand containment_command
containment_tested = record {
  tests = λ texts v r d read t h k. of_one_text ring_marked_set_and_set _ texts v read (λ source x. containment_once source v r d x t h k);
  answers = λ texts v r text read t h a. of_one_text ring_marked_set_and_set _ texts v read (λ source x. containment_refuses source v r text x t h a);
  wholes = λ texts v r text read t h a. of_one_text ring_marked_set_and_set _ texts v read (λ source x. containment_refuses source v r text x t h a);
}
