-- If each polynomial is written as a monomial or as the difference of two, without numbers, no coefficient of a command overflows; and there are such texts.
-- To cite: plain_inputs, plain_texts. The rest are steps.
use Rattle.std.specs.Prelude.{◌≡◌, ℕ, Bool, List, [], ◌∷◌, length, Option, ℤ}
use Rattle.std.proofs.Common.{subst, inl, inr}
use Rattle.gf_frac.specs.declared.refusal.Overflow.{Overflow}
use Rattle.gf_exponents_theory.specs.SixOrders.{MonomialOrder}
use Rattle.gf_poly.specs.Polynomial.{Terms}
use Rattle.gf_facets_theory.specs.Regions.{all_positive}
use Rattle.gfan_lists.specs.Ideals.{ideal_by}
use Rattle.gf_binomials_theory.specs.Binomials.{AreBinomials}
use Rattle.gfan_fans.proofs.LawsHold.{refusals_tell_no_overflow}
use Rattle.gf_generated.specs.Generated.{generated_set}
use Rattle.gf_generated.proofs.GeneratedLaws.{generators_are_binomials}
use Rattle.gf_front.specs.declared.options.BuchbergerOptions.{BuchbergerOptions}
use Rattle.gf_front.specs.declared.options.GeneratedOptions.{GeneratedOptions}
use Rattle.gf_front.specs.declared.refusal.Refusal.TheVariants as refusals
use Rattle.gf_items.specs.Items.{IsTextRefused}
use Rattle.gf_items.specs.Sources.{ring_set_vector}
use Rattle.gf_items.specs.Checks.{FirstFails}
use Rattle.gf_frame.specs.Commands.{IsUnanswered, IsRefusedOn}
use Rattle.gfan_common.specs.Forms.{generators_of, form}
use Rattle.gfan_sets.specs.Buchberger.{buchberger_command}
use Rattle.gfan_generated.specs.Generated.{list_to, IsSummaryCause, generated_command}
use Rattle.gfan_plain_theory.specs.PlainInputs.{BeginsPlainly, IsPlainSource}
use Rattle.gfan_plain_theory.specs.PlainLaws.{PlainInputsTellNoOverflow, PlainTextsExist}
use Rattle.gfan_plain_theory.proofs.PlainReadLaws.{tells_text, no_weight, basis_never, set_binomials, set_text_never}
use Rattle.gfan_plain_theory.proofs.PlainTexts.{one_set_plainly, two_sets_plainly, listed_sets_plainly}
use Rattle.gfan_plain_theory.proofs.PlainToolLaws.{weights_never, marks_never, members_never, saturation_never, cone_never, tropical_never}
use Rattle.gfan_plain_theory.proofs.PlainListLaws.{search_never, list_never}

-- ---- bases, and summaries of their lists

summary_never : (limit pairs : ℕ) (fs : List Terms) (x : Overflow) → AreBinomials fs → IsSummaryCause limit pairs fs (refusals.Overflow x) → ⊥
summary_never limit pairs fs x b (IsSummaryCause.at_root e h q) = basis_never MonomialOrder.deglex 4 fs pairs e x b h.cause q
summary_never limit pairs fs x b (IsSummaryCause.in_tree e h q) =
    search_never [] (list_to limit pairs) 4 (all_positive 4) fs e x (λ y pairs k. refusals_tell_no_overflow.search (ideal_by 4 fs) pairs y b k) h q
summary_never limit pairs fs x b (IsSummaryCause.at_weight e h q) = no_weight e x q
summary_never limit pairs fs x b (IsSummaryCause.at_sum e h q) = cc

-- ---- one source

module _ (source : List ℕ) (b : BeginsPlainly source) where
  form_never : (revlex : Bool) (n : ℕ) (weight : Option (List ℤ)) (fs : List Terms) (x : Overflow) →
      FirstFails (form revlex n weight fs) (refusals.Overflow x) → ⊥
  form_never revlex n weight fs x (inl h) = h
  form_never revlex n weight fs x (inr (k, inl h)) = h
  form_never revlex n weight fs x (inr (k, inr (l, inl h))) = h
  form_never revlex n weight fs x (inr (k, inr (l, inr (m, h)))) = h

  buchberger_never : (o : BuchbergerOptions) (x : Overflow) → IsRefusedOn (buchberger_command o) (source ∷ []) (refusals.Overflow x) → ⊥
  buchberger_never o x (IsRefusedOn.in_text e h q) =
      set_text_never source b o.weighted x (subst (λ d. IsTextRefused (ring_set_vector o.weighted) source d) (tells_text e x q) h)
  buchberger_never o x (IsRefusedOn.behind_text v r (IsUnanswered.in_form f)) = form_never o.revlex (length v.0) v.1.1 (generators_of v.1.0) x f
  buchberger_never o x (IsRefusedOn.behind_text v r (IsUnanswered.in_work f w)) =
      basis_never _ (length v.0) (generators_of v.1.0) o.pairs w.0 x
      (set_binomials source b r.read.behind v.0 r.read.two.behind v.1.0 r.read.one r.read.two.one) w.2 w.1
  buchberger_never o x (IsRefusedOn.behind_text v r (IsUnanswered.no_memory m)) = cc
  buchberger_never o x (IsRefusedOn.no_memory m) = cc

generated_never : (o : GeneratedOptions) (texts : List (List ℕ)) (x : Overflow) → IsRefusedOn (generated_command o) texts (refusals.Overflow x) → ⊥
generated_never o texts x (IsRefusedOn.in_text e h q) = h
generated_never o texts x (IsRefusedOn.behind_text v r (IsUnanswered.in_form f)) = f
generated_never o texts x (IsRefusedOn.behind_text v r (IsUnanswered.in_work f w)) =
    summary_never o.limit o.pairs (generated_set o.number) x (generators_are_binomials.binomials o.number) w
generated_never o texts x (IsRefusedOn.behind_text v r (IsUnanswered.no_memory m)) = cc
generated_never o texts x (IsRefusedOn.no_memory m) = cc

bases_never : (o : BuchbergerOptions) (texts : List (List ℕ)) (x : Overflow) → IsPlainSource texts →
    IsRefusedOn (buchberger_command o) texts (refusals.Overflow x) → ⊥
bases_never o [] x b h = b
bases_never o (source ∷ []) x b h = buchberger_never source b o x h
bases_never o (source ∷ (other ∷ others)) x b h = b

-- ---- the laws

pub plain_inputs : PlainInputsTellNoOverflow
plain_inputs = record {
  bases = bases_never;
  lists = list_never;
  summaries = generated_never;
  saturations = saturation_never;
  weights = λ o texts x b h. weights_never o.listed o.echoed texts x b h;
  cones = λ o texts x b h. cone_never o.vector_input o texts x b h;
  prevarieties = λ o texts x b h. tropical_never o.basis_test texts x b h;
  marks = marks_never;
  members = members_never;
}

pub plain_texts : PlainTextsExist
plain_texts = record { one = (_, one_set_plainly); two = (_, two_sets_plainly); listed = (_, listed_sets_plainly) }
