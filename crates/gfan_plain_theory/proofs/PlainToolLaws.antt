-- If each polynomial is written as a monomial or as the difference of two, without numbers, no coefficient of these commands overflows: `_saturation`,
-- `_weightvector`, `_groebnercone`, `_tropicalintersection`, also with `--basistest`, `_ismarkedgroebnerbasis`, `_doesidealcontain`.
-- To cite: weights_never, marks_never, members_never, saturation_never, cone_never, tropical_never. The rest are steps.
use Rattle.std.specs.Prelude.{◌≡◌, ℕ, ◌+◌, Bool, true, false, List, [], ◌∷◌, ◌++◌, length, map, ℤ}
use Rattle.std.proofs.Common.{ap, ◌∙◌, subst, inl, inr}
use Rattle.std.proofs.lemmas.List.Sorted.{Contains-permutation, IsPermutation-sym}
use Rattle.gf_frac.specs.declared.refusal.Overflow.{Overflow}
use Rattle.gf_exponents_theory.specs.SixOrders.{MonomialOrder}
use Rattle.gf_poly.specs.declared.error.PolyError.{PolyError}
use Rattle.gf_poly.specs.declared.error.PolyError.TheVariants as errors
use Rattle.gf_poly.specs.Polynomial.{Terms}
use Rattle.gf_poly.specs.Marking.{MarkedPolynomials, Each, HasMarkedTerm, IsArranged}
use Rattle.gf_ideal_theory.specs.Membership.{AreInVariables}
use Rattle.gf_ideal_theory.proofs.ListedTerms.{variables_by_terms}
use Rattle.gf_ideal_theory.proofs.ListLaws.{each_contained, contained_each}
use Rattle.gf_ideal_theory.proofs.MembershipLaws.{variables_of_member}
use Rattle.gf_buchberger.specs.declared.bases.BasisError.{BasisError}
use Rattle.gf_buchberger.specs.declared.bases.BasisError.TheVariants as basis_errors
use Rattle.gf_duality_theory.specs.Faces.{Rows}
use Rattle.gf_reverse_theory.specs.Upward.{IsNodeIn}
use Rattle.gf_reverse_theory.proofs.FanLaws.{among_of}
use Rattle.gfan_lists.specs.Ideals.{ideal_by}
use Rattle.gf_saturate.specs.Saturating.{IsSaturateRefusal}
use Rattle.gfan_fans.specs.InitialError.{InitialError}
use Rattle.gfan_fans.specs.InitialError.TheVariants as initial
use Rattle.gfan_fans.proofs.OutcomeLaws.{reached_in}
use Rattle.gfan_fans.specs.BasisTestError.{BasisTestError}
use Rattle.gfan_fans.specs.Refusals.{IsRefusedWithBasis, AreBasesRefused, IsVerdictRefusal}
use Rattle.gfan_fans.specs.TropicalError.{TropicalError}
use Rattle.gfan_fans.specs.TropicalError.TheVariants as tropical_errors
use Rattle.gf_sections.specs.declared.error.SectionsError.{SectionsError}
use Rattle.gf_sections.specs.declared.error.SectionsError.TheVariants as sections_errors
use Rattle.gf_fan.specs.declared.error.FanError.{FanError}
use Rattle.gf_fan.specs.declared.error.FanError.TheVariants as fan_errors
use Rattle.gf_rays.specs.Cones.{RowsAndRays}
use Rattle.gf_reduced.specs.declared.error.CheckError.{CheckError}
use Rattle.gf_reduced.specs.Forms.{monic_of, monic_set}
use Rattle.gf_reduced.specs.Refusals.{of_poly, IsTestRefusal, IsReducedBasisRefusal, IsReducedRefusal}
use Rattle.gf_binomials_theory.specs.Binomials.{IsBinomial, AreBinomials}
use Rattle.gf_binomial_bases_theory.proofs.LawsHold.{bases_of_binomials}
use Rattle.gfan_fans.specs.Sets.{IsBinomialSet}
use Rattle.gfan_fans.specs.Written.{ArePlainlyWritten}
use Rattle.gfan_fans.proofs.CheckLaws.{forms_binomial}
use Rattle.gfan_fans.proofs.LawsHold.{refusals_tell_no_overflow, plain_sets_are_binomials}
use Rattle.gf_text.specs.declared.error.TextError.TheVariants as text_errors
use Rattle.gf_text.specs.declared.tree.WrittenTerm.{WrittenTerm}
use Rattle.gf_text.specs.declared.written.Written.{Written}
use Rattle.gf_text.specs.declared.written.Written.TheVariants as written
use Rattle.gf_text.specs.Machine.{Reads}
use Rattle.gf_text.specs.Tokens.{Position, lexemes, ring_more}
use Rattle.gf_text.specs.Rings.{IsRingRead}
use Rattle.gf_text.specs.SetText.{IsSetText}
use Rattle.gf_text.specs.ListText.{IsListText}
use Rattle.gf_text.specs.Sets.{IsSetRead, AreWritten, IsWhatRemains}
use Rattle.gf_text.specs.SetLists.{polynomials_of, AreWhatRemain, AreMarkedSets, AreMarkedSetsRead, HaveSumOverflow}
use Rattle.gf_text.proofs.CombiningLaws.{sums_variables}
use Rattle.gf_text.proofs.SetMachineLaws.{one_set}
use Rattle.gf_text.proofs.SetListsLaws.{one_list_of_sets}
use Rattle.gf_front.specs.declared.options.SaturationOptions.{SaturationOptions}
use Rattle.gf_front.specs.declared.options.GroebnerConeOptions.{GroebnerConeOptions}
use Rattle.gf_front.specs.declared.refusal.Refusal.TheVariants as refusals
use Rattle.gf_items.specs.Items.{from, IsOneRefused, IsTextRefused}
use Rattle.gf_items.specs.Sources.{ring_set_vector, ring_marked_set, ring_marked_set_and_set, ring_marked_sets, dimension_two_lists}
use Rattle.gf_items.specs.Checks.{FirstFails}
use Rattle.gf_items.proofs.ItemLaws.{ring_once}
use Rattle.gf_frame.specs.Commands.{IsUnanswered, IsRefusedOn}
use Rattle.gfan_common.specs.Causes.{of_basis}
use Rattle.gfan_common.specs.CheckedSets.{of_check, IsSomeReductionRefusal}
use Rattle.gfan_common.specs.Forms.{generators_of}
use Rattle.gfan_common.specs.ReducedSets.{IsRefusedFrom}
use Rattle.gfan_common.specs.ToolForms.{for_each}
use Rattle.gfan_common.proofs.ReadSetLaws.{IsSetKept, set_kept, set_variables, list_kept}
use Rattle.gfan_sets.specs.Containment.{IsContainmentRefusal, containment_command}
use Rattle.gfan_sets.specs.Marked.{marked_command}
use Rattle.gfan_sets.specs.Saturation.{saturation_command}
use Rattle.gfan_sets.specs.WeightVector.{IsUnweighed, weights_command}
use Rattle.gfan_fans.specs.BasisTest.{of_initial, of_basis_test, intersection_by}
use Rattle.gfan_fans.specs.FanTexts.{of_fan, IsNoFanText}
use Rattle.gfan_fans.specs.GroebnerCone.{IsBasisConeCause, cone_command}
use Rattle.gfan_fans.specs.ToldCones.{of_sections, IsConeFanCause, IsUntoldAs}
use Rattle.gfan_fans.specs.Tropical.{of_tropical, IsNoTropicalText}
use Rattle.gfan_plain_theory.specs.PlainInputs.{IsPlainSource, BeginsPlainly, BeginsWithTwoPlainly, BeginsWithPlainSets, IsPlainToWeigh, IsPlainCone, IsOneText}
use Rattle.gfan_plain_theory.proofs.PlainReadLaws.{tells_text, no_weight, basis_never, tree_never, check_never, members_marked, each_member, same_generators}
use Rattle.gfan_plain_theory.proofs.PlainReadLaws.{sum_never}
use Rattle.gfan_plain_theory.proofs.PlainReadLaws.{set_binomials, marked_binomials, set_text_never, marked_text_never}

-- ---- sets that were read

sets_variables : (ring : List (List ℕ)) (p : Position) (end : ℕ) (ws : List Written) → IsSetRead ring p end ws → AreInVariables (length ring) (generators_of ws)
sets_variables ring p end ws r f c = variables_by_terms (length ring) f (set_kept ring p end ws r f c).0

-- a check isn't refused so
test_never : (s : MarkedPolynomials) (e : CheckError) (x : Overflow) → IsBinomialSet s → IsTestRefusal s e → refusals.Overflow x ≡ of_check e → ⊥
test_never s e x b h q = check_never s e x (λ y i. refusals_tell_no_overflow.test s y b (subst (λ d. IsTestRefusal s d) i h)) q

reduced_never : (k : ℕ) (s : MarkedPolynomials) (e : CheckError) (x : Overflow) → IsBinomialSet s → IsReducedRefusal k s e → refusals.Overflow x ≡ of_check e →
    ⊥
reduced_never k s e x b h q = check_never s e x (λ y i. refusals_tell_no_overflow.reduced_basis k s y b (subst (λ d. IsReducedRefusal k s d) i h)) q

basis_check_never : (k : ℕ) (s : MarkedPolynomials) (e : CheckError) (x : Overflow) → IsBinomialSet s → IsReducedBasisRefusal k s e →
    refusals.Overflow x ≡ of_check e → ⊥
basis_check_never k s e x b h q = check_never s e x (λ y i. refusals_tell_no_overflow.marked_basis k s y b (subst (λ d. IsReducedBasisRefusal k s d) i h)) q

-- ---- cones

sections_never : (e : SectionsError) (x : Overflow) → refusals.Overflow x ≡ of_sections e → ⊥
sections_never (sections_errors.Cone o) x q = cc
sections_never (sections_errors.Wide w) x q = cc
sections_never sections_errors.Memory x q = cc

fan_never : (e : FanError) (x : Overflow) → refusals.Overflow x ≡ of_fan e → ⊥
fan_never (fan_errors.Cone o) x q = cc
fan_never (fan_errors.NotAFan first second) x q = cc
fan_never fan_errors.Memory x q = cc

fan_text_never : (n : ℕ) (cones : List RowsAndRays) (x : Overflow) → IsNoFanText n cones (refusals.Overflow x) → ⊥
fan_text_never n cones x (IsNoFanText.no_fan e h q) = fan_never e x q
fan_text_never n cones x (IsNoFanText.too_wide f w i h q) = cc
fan_text_never n cones x (IsNoFanText.no_memory q) = cc

untold_never : (as_fan certified : Bool) (n : ℕ) (hs es : List (List ℤ)) (x : Overflow) → IsUntoldAs as_fan certified n hs es (refusals.Overflow x) → ⊥
untold_never false certified n hs es x (e, q, h) = sections_never e x q
untold_never true certified n hs es x (IsConeFanCause.at_rays o h q) = cc
untold_never true certified n hs es x (IsConeFanCause.at_fan c i h) = fan_text_never n (c ∷ []) x h
untold_never true certified n hs es x (IsConeFanCause.no_memory q) = cc

-- ---- one source

module _ (source : List ℕ) (b : BeginsPlainly source) where
  saturated_never : (o : SaturationOptions) (x : Overflow) → IsRefusedOn (saturation_command o) (source ∷ []) (refusals.Overflow x) → ⊥
  saturated_never o x (IsRefusedOn.in_text e h q) =
      set_text_never source b false x (subst (λ d. IsTextRefused (ring_set_vector false) source d) (tells_text e x q) h)
  saturated_never o x (IsRefusedOn.behind_text v r (IsUnanswered.in_form f)) = f
  saturated_never o x (IsRefusedOn.behind_text v r (IsUnanswered.in_work f w)) = at w.0 w.1 w.2
    where
      fs : List Terms
      fs = generators_of v.1.0

      at : (e : BasisError) → refusals.Overflow x ≡ of_basis e → IsSaturateRefusal (length v.0) fs o.pairs e → ⊥
      at (basis_errors.Overflow y) q h =
          refusals_tell_no_overflow.saturation (length v.0) fs o.pairs y (sets_variables v.0 (from source r.read.behind) r.read.two.behind v.1.0 r.read.two.one)
          (set_binomials source b r.read.behind v.0 r.read.two.behind v.1.0 r.read.one r.read.two.one) h
      at (basis_errors.Exponent y) q h = cc
      at (basis_errors.PairBudget s u) q h = cc
      at basis_errors.Memory q h = cc
  saturated_never o x (IsRefusedOn.behind_text v r (IsUnanswered.no_memory m)) = cc
  saturated_never o x (IsRefusedOn.no_memory m) = cc

  marked_never : (x : Overflow) → IsRefusedOn marked_command (source ∷ []) (refusals.Overflow x) → ⊥
  marked_never x (IsRefusedOn.in_text e h q) = marked_text_never source b x (subst (λ d. IsTextRefused ring_marked_set source d) (tells_text e x q) h)
  marked_never x (IsRefusedOn.behind_text v r (IsUnanswered.in_form f)) = f
  marked_never x (IsRefusedOn.behind_text v r (IsUnanswered.in_work f w)) =
      test_never v.1 w.0 x (marked_binomials source b r.read.behind v.0 r.end v.1 r.read.one r.read.two) w.2 w.1
  marked_never x (IsRefusedOn.behind_text v r (IsUnanswered.no_memory m)) = cc
  marked_never x (IsRefusedOn.no_memory m) = cc

  basis_cone_never : (o : GroebnerConeOptions) (x : Overflow) → IsRefusedOn (cone_command false o) (source ∷ []) (refusals.Overflow x) → ⊥
  basis_cone_never o x (IsRefusedOn.in_text e h q) = marked_text_never source b x (subst (λ d. IsTextRefused ring_marked_set source d) (tells_text e x q) h)
  basis_cone_never o x (IsRefusedOn.behind_text v r (IsUnanswered.in_form f)) = f
  basis_cone_never o x (IsRefusedOn.behind_text v r (IsUnanswered.in_work f (IsBasisConeCause.at_check e h q))) =
      reduced_never 0 v.1 e x (marked_binomials source b r.read.behind v.0 r.end v.1 r.read.one r.read.two) h q
  basis_cone_never o x (IsRefusedOn.behind_text v r (IsUnanswered.in_work f (IsBasisConeCause.at_cone normals i a m h))) =
      untold_never o.as_fan o.certificates v.1.variables _ [] x h
  basis_cone_never o x (IsRefusedOn.behind_text v r (IsUnanswered.no_memory m)) = cc
  basis_cone_never o x (IsRefusedOn.no_memory m) = cc

-- ---- weights

unweighed_never : (sets : List MarkedPolynomials) (x : Overflow) → Each IsBinomialSet sets → IsUnweighed sets (refusals.Overflow x) → ⊥
unweighed_never sets x b (IsUnweighed.at_set e h q) = at 0 sets b h
  where
    at : (k : ℕ) (ss : List MarkedPolynomials) → Each IsBinomialSet ss → IsRefusedFrom k ss e → ⊥
    at k [] c h = h
    at k (s ∷ ss) c (inl h) = reduced_never k s e x c.0 h q
    at k (s ∷ ss) c (inr h) = at (k + 1) ss c.1 h.1
unweighed_never sets x b (IsUnweighed.at_weight e a h q) = no_weight e x q
unweighed_never sets x b (IsUnweighed.no_memory q) = cc

weight_never : (source : List ℕ) (b : BeginsPlainly source) (echoed : Bool) (x : Overflow) →
    IsRefusedOn (weights_command false echoed) (source ∷ []) (refusals.Overflow x) → ⊥
weight_never source b echoed x (IsRefusedOn.in_text e h q) =
    marked_text_never source b x (subst (λ d. IsTextRefused ring_marked_set source d) (tells_text e x q) h)
weight_never source b echoed x (IsRefusedOn.behind_text v r (IsUnanswered.in_form f)) = f
weight_never source b echoed x (IsRefusedOn.behind_text v r (IsUnanswered.in_work f w)) =
    unweighed_never (v.1 ∷ []) x (marked_binomials source b r.read.behind v.0 r.end v.1 r.read.one r.read.two, tt) w
weight_never source b echoed x (IsRefusedOn.behind_text v r (IsUnanswered.no_memory m)) = cc
weight_never source b echoed x (IsRefusedOn.no_memory m) = cc

-- the sets of a list
each_both : (p q : List (List WrittenTerm)) → ArePlainlyWritten p → ArePlainlyWritten q → ArePlainlyWritten (p ++ q)
each_both [] q h k = k
each_both (u ∷ p) q h k = (h.0, each_both p q h.1 k)

all_plain : (qs : List (List (List WrittenTerm))) → Each ArePlainlyWritten qs → ArePlainlyWritten (polynomials_of qs)
all_plain [] h = tt
all_plain (q ∷ qs) h = each_both q (polynomials_of qs) h.0 (all_plain qs h.1)

set_of : (n : ℕ) (q : List (List WrittenTerm)) (ws : List Written) (s : MarkedPolynomials) → ArePlainlyWritten q → IsWhatRemains n q ws →
    ws ≡ map (λ b. written.Nonzero b) s.items → IsSetKept n s → IsBinomialSet s
set_of n q ws s plain r e k = record {
  variables = set_variables n s k;
  marked =
      contained_each HasMarkedTerm s.items
      (members_marked n r.sums s.items (sums_variables n q r.sums r.exponents) (subst (λ vs. AreWritten r.sums vs) e r.written) k.1);
  binomials = contained_each (λ c. IsBinomial c.poly) s.items (each_member s.items (each_contained IsBinomial _ (subst (λ vs. AreBinomials (generators_of vs)) e
      (subst AreBinomials (same_generators ws) (plain_sets_are_binomials.meaning n q ws plain r)))));
}

sets_of : (n : ℕ) (qs : List (List (List WrittenTerm))) (sets : List (List Written)) (ss : List MarkedPolynomials) → Each ArePlainlyWritten qs →
    AreWhatRemain n qs sets → AreMarkedSets n sets ss →
    Each (IsSetKept n) ss → Each IsBinomialSet ss
sets_of n qs sets [] p h m k = tt
sets_of n qs [] (s ∷ ss) p h m k = absurd m
sets_of n [] (ws ∷ sets) (s ∷ ss) p h m k = absurd h
sets_of n (q ∷ qs) (ws ∷ sets) (s ∷ ss) p h m k = (set_of n q ws s p.0 h.0 m.0 k.0, sets_of n qs sets ss p.1 h.1 m.2 k.1)

module _ (source : List ℕ) (b : BeginsWithPlainSets source) where
  list_plain : (behind : ℕ) (ring : List (List ℕ)) (said : List (List (List WrittenTerm))) (place : ℕ) → IsRingRead (from source 0) behind ring →
      Reads (IsListText (IsSetText ring)) (lexemes (ring_more ring) source behind) said place → Each ArePlainlyWritten said
  list_plain behind ring said place r t =
      let same = ring_once.once (from source 0) behind b.behind ring b.ring r b.is_ring in
      let moved = subst (λ n. Reads (IsListText (IsSetText ring)) (lexemes (ring_more ring) source n) b.said b.place) same.0
      (subst (λ z. Reads (IsListText (IsSetText z)) (lexemes (ring_more z) source b.behind) b.said b.place) same.1 b.are_sets) in
      subst (λ z. Each ArePlainlyWritten z) (one_list_of_sets ring r.ring (lexemes (ring_more ring) source behind) b.said said b.place place moved t).0 b.plain

  list_sum_never : (behind : ℕ) (ring : List (List ℕ)) (o : Overflow) → IsRingRead (from source 0) behind ring → HaveSumOverflow ring (from source behind) o → ⊥
  list_sum_never behind ring o r h =
      plain_sets_are_binomials.sums (length ring) (polynomials_of h.said) o (all_plain h.said (list_plain behind ring h.said h.place r h.text))
      (h.sums, h.exponents, h.overflow)

  list_binomials : (behind : ℕ) (ring : List (List ℕ)) (end : ℕ) (ss : List MarkedPolynomials) → IsRingRead (from source 0) behind ring →
      AreMarkedSetsRead ring (from source behind) end ss → Each IsBinomialSet ss
  list_binomials behind ring end ss r h =
      sets_of (length ring) h.read.said h.written ss (list_plain behind ring h.read.said end r h.read.text) h.read.remain h.marked
      (list_kept ring (from source behind) end ss h)

  list_text_never : (o : Overflow) → IsTextRefused ring_marked_sets source (text_errors.Overflow o) → ⊥
  list_text_never o (IsTextRefused.in_items (IsOneRefused.at_first h)) = h
  list_text_never o (IsTextRefused.in_items (IsOneRefused.at_second behind ring r h)) = list_sum_never behind ring o r h
  list_text_never o (IsTextRefused.behind_items end a s r m q) = cc

  listed_never : (echoed : Bool) (x : Overflow) → IsRefusedOn (weights_command true echoed) (source ∷ []) (refusals.Overflow x) → ⊥
  listed_never echoed x (IsRefusedOn.in_text e h q) = list_text_never x (subst (λ d. IsTextRefused ring_marked_sets source d) (tells_text e x q) h)
  listed_never echoed x (IsRefusedOn.behind_text v r (IsUnanswered.in_form f)) = f
  listed_never echoed x (IsRefusedOn.behind_text v r (IsUnanswered.in_work f w)) =
      unweighed_never v.1 x (list_binomials r.read.behind v.0 r.end v.1 r.read.one r.read.two) w
  listed_never echoed x (IsRefusedOn.behind_text v r (IsUnanswered.no_memory m)) = cc
  listed_never echoed x (IsRefusedOn.no_memory m) = cc

pub weights_never : (listed echoed : Bool) (texts : List (List ℕ)) (x : Overflow) → IsPlainToWeigh listed texts →
    IsRefusedOn (weights_command listed echoed) texts (refusals.Overflow x) → ⊥
weights_never false echoed [] x b h = b
weights_never false echoed (source ∷ []) x b h = weight_never source b echoed x h
weights_never false echoed (source ∷ (other ∷ others)) x b h = b
weights_never true echoed [] x b h = b
weights_never true echoed (source ∷ []) x b h = listed_never source b echoed x h
weights_never true echoed (source ∷ (other ∷ others)) x b h = b

-- ---- a basis, and polynomials in its ideal

module _ (source : List ℕ) (b : BeginsWithTwoPlainly source) where
  -- what the second set says
  second_plain : (behind place : ℕ) (ring : List (List ℕ)) (first second : List (List WrittenTerm)) (end : ℕ) → IsRingRead (from source 0) behind ring →
      Reads (IsSetText ring) (lexemes (ring_more ring) source behind) first place → Reads (IsSetText ring)
      (lexemes (ring_more ring) source place) second end → ArePlainlyWritten second
  second_plain behind place ring first second end r t u =
      let a = b.first in
      let same = ring_once.once (from source 0) behind a.behind ring a.ring r a.is_ring in
      let one = subst (λ n. Reads (IsSetText ring) (lexemes (ring_more ring) source n) a.said a.place) same.0
      (subst (λ z. Reads (IsSetText z) (lexemes (ring_more z) source a.behind) a.said a.place) same.1 a.is_set) in
      let there = (one_set ring r.ring (lexemes (ring_more ring) source behind) a.said first a.place place one t).1 in
      let two = subst (λ n. Reads (IsSetText ring) (lexemes (ring_more ring) source n) b.more b.end) there
      (subst (λ z. Reads (IsSetText z) (lexemes (ring_more z) source a.place) b.more b.end) same.1 b.is_second) in
      subst ArePlainlyWritten (one_set ring r.ring (lexemes (ring_more ring) source place) b.more second b.end end two u).0 b.plain

  two_text_never : (o : Overflow) → IsTextRefused ring_marked_set_and_set source (text_errors.Overflow o) → ⊥
  two_text_never o (IsTextRefused.in_items (IsOneRefused.at_first h)) = h
  two_text_never o (IsTextRefused.in_items (IsOneRefused.at_second behind ring r (IsOneRefused.at_first h))) = sum_never source b.first behind ring o r h
  two_text_never o (IsTextRefused.in_items (IsOneRefused.at_second behind ring r (IsOneRefused.at_second place s m h))) =
      plain_sets_are_binomials.sums (length ring) h.said o (second_plain behind place ring m.read.said h.said h.place r m.read.text h.text)
      (h.sums, h.exponents, h.overflow)
  two_text_never o (IsTextRefused.behind_items end a s r m q) = cc

  contained_never : (s : MarkedPolynomials) (fs : List Terms) (t : MarkedPolynomials) (d : PolyError) (x : Overflow) → IsBinomialSet s → AreBinomials fs →
      IsArranged (monic_set s) t →
      IsSomeReductionRefusal t.items fs d → refusals.Overflow x ≡ of_check (of_poly d) → ⊥
  contained_never s fs t (errors.Overflow o) x k two a h q =
      refusals_tell_no_overflow.reduction t.items h.polynomial o
      (λ c i. forms_binomial s k c (Contains-permutation t.items (map monic_of s.items) c (IsPermutation-sym (map monic_of s.items) t.items a.members) i))
      (two h.polynomial h.contained) h.cause
  contained_never s fs t (errors.Exponent o) x k two a h q = cc
  contained_never s fs t errors.Memory x k two a h q = cc

  containment_never : (x : Overflow) → IsRefusedOn containment_command (source ∷ []) (refusals.Overflow x) → ⊥
  containment_never x (IsRefusedOn.in_text e h q) = two_text_never x (subst (λ d. IsTextRefused ring_marked_set_and_set source d) (tells_text e x q) h)
  containment_never x (IsRefusedOn.behind_text v r (IsUnanswered.in_form f)) = f
  containment_never x (IsRefusedOn.behind_text v r (IsUnanswered.in_work f w)) = at w.0 w.1 w.2
    where
      set : IsBinomialSet v.1.0
      set = marked_binomials source b.first r.read.behind v.0 r.read.two.behind v.1.0 r.read.one r.read.two.one

      fs : AreBinomials (generators_of v.1.1)
      fs = subst AreBinomials (same_generators v.1.1) (plain_sets_are_binomials.meaning (length v.0) r.read.two.two.said v.1.1
          (second_plain r.read.behind r.read.two.behind v.0 r.read.two.one.read.said r.read.two.two.said r.end r.read.one r.read.two.one.read.text
          r.read.two.two.text)
          (record { sums = r.read.two.two.sums; exponents = r.read.two.two.exponents; fits = r.read.two.two.fits; written = r.read.two.two.written }))

      at : (e : CheckError) → refusals.Overflow x ≡ of_check e → IsContainmentRefusal v.1.0 (generators_of v.1.1) e → ⊥
      at e q (IsContainmentRefusal.at_basis h) = basis_check_never 0 v.1.0 e x set h q
      at e q (IsContainmentRefusal.at_member t d i a h k) = contained_never v.1.0 (generators_of v.1.1) t d x set fs a h (q ∙ ap of_check k)
  containment_never x (IsRefusedOn.behind_text v r (IsUnanswered.no_memory m)) = cc
  containment_never x (IsRefusedOn.no_memory m) = cc

-- ---- marked sets

pub marks_never : (texts : List (List ℕ)) (x : Overflow) → IsPlainSource texts → IsRefusedOn marked_command texts (refusals.Overflow x) → ⊥
marks_never [] x b h = b
marks_never (source ∷ []) x b h = marked_never source b x h
marks_never (source ∷ (other ∷ others)) x b h = b

pub members_never : (texts : List (List ℕ)) (x : Overflow) → IsOneText BeginsWithTwoPlainly texts →
    IsRefusedOn containment_command texts (refusals.Overflow x) → ⊥
members_never [] x b h = b
members_never (source ∷ []) x b h = containment_never source b x h
members_never (source ∷ (other ∷ others)) x b h = b

-- ---- saturations

pub saturation_never : (o : SaturationOptions) (texts : List (List ℕ)) (x : Overflow) → IsPlainSource texts →
    IsRefusedOn (saturation_command o) texts (refusals.Overflow x) → ⊥
saturation_never o [] x b h = b
saturation_never o (source ∷ []) x b h = saturated_never source b o x h
saturation_never o (source ∷ (other ∷ others)) x b h = b

-- ---- cones of bases, and of vectors

entries_never : (n : ℕ) (rows : List (List ℤ)) (x : Overflow) → FirstFails (for_each n rows) (refusals.Overflow x) → ⊥
entries_never n [] x h = h
entries_never n (w ∷ ws) x (inl h) = h
entries_never n (w ∷ ws) x (inr (k, h)) = entries_never n ws x h

numbers_never : (source : List ℕ) (o : Overflow) → IsTextRefused dimension_two_lists source (text_errors.Overflow o) → ⊥
numbers_never source o (IsTextRefused.in_items (IsOneRefused.at_first h)) = h
numbers_never source o (IsTextRefused.in_items (IsOneRefused.at_second p n r (IsOneRefused.at_first h))) = h
numbers_never source o (IsTextRefused.in_items (IsOneRefused.at_second p n r (IsOneRefused.at_second s ws m h))) = h
numbers_never source o (IsTextRefused.behind_items end a s r m q) = cc

pub cone_never : (vector_input : Bool) (o : GroebnerConeOptions) (texts : List (List ℕ)) (x : Overflow) → IsPlainCone vector_input texts →
    IsRefusedOn (cone_command vector_input o) texts (refusals.Overflow x) → ⊥
cone_never false o [] x b h = b
cone_never false o (source ∷ []) x b h = basis_cone_never source b o x h
cone_never false o (source ∷ (other ∷ others)) x b h = b
cone_never true o texts x b (IsRefusedOn.no_memory m) = cc
cone_never true o [] x b (IsRefusedOn.in_text e h q) = h
cone_never true o (source ∷ []) x b (IsRefusedOn.in_text e h q) =
    numbers_never source x (subst (λ d. IsTextRefused dimension_two_lists source d) (tells_text e x q) h)
cone_never true o (source ∷ (other ∷ others)) x b (IsRefusedOn.in_text e h q) = h
cone_never true o texts x b (IsRefusedOn.behind_text v r (IsUnanswered.in_form (inl f))) = f
cone_never true o texts x b (IsRefusedOn.behind_text v r (IsUnanswered.in_form (inr f))) = entries_never v.0 (v.1.0 ++ v.1.1) x f.1
cone_never true o texts x b (IsRefusedOn.behind_text v r (IsUnanswered.in_work f w)) = untold_never o.as_fan o.certificates v.0 _ v.1.1 x w
cone_never true o texts x b (IsRefusedOn.behind_text v r (IsUnanswered.no_memory m)) = cc

-- ---- prevarieties, and the test whether polynomials are a tropical basis

prevariety_never : (e : TropicalError) (x : Overflow) → refusals.Overflow x ≡ of_tropical e → ⊥
prevariety_never (tropical_errors.Cone o) x q = cc
prevariety_never (tropical_errors.ZeroPolynomial set index) x q = cc
prevariety_never tropical_errors.Memory x q = cc

module _ (n : ℕ) (fs : List Terms) (inside : AreInVariables n fs) (two : AreBinomials fs) where
  -- at one of the bases
  with_basis_never : (cones : List Rows) (s : MarkedPolynomials) (pairs : ℕ) (e : InitialError) (x : Overflow) → IsNodeIn (ideal_by n fs) s →
      IsRefusedWithBasis n cones s.items pairs e →
      refusals.Overflow x ≡ of_initial e → ⊥
  with_basis_never cones s pairs (initial.Cone o) x node h q = cc
  with_basis_never cones s pairs (initial.Wide w) x node h q = cc
  with_basis_never cones s pairs (initial.Entry index value) x node h q = cc
  with_basis_never cones s pairs (initial.Saturation (basis_errors.Exponent o)) x node h q = cc
  with_basis_never cones s pairs (initial.Saturation (basis_errors.PairBudget t u)) x node h q = cc
  with_basis_never cones s pairs (initial.Saturation basis_errors.Memory) x node h q = cc
  with_basis_never cones s pairs initial.Memory x node h q = cc
  with_basis_never cones s pairs (initial.Saturation (basis_errors.Overflow o)) x node (IsRefusedWithBasis.no_memory m) q = cc
  with_basis_never cones s pairs (initial.Saturation (basis_errors.Overflow o)) x node (IsRefusedWithBasis.at_cone normals c a m h) q =
      refusals_tell_no_overflow.initial_ideals n s.items normals c pairs o (bases_of_binomials n fs s.items inside two node.basis.reduced)
      (λ b k. variables_of_member n fs b.poly inside (node.basis.reduced.basis.members b k)) h

  at_bases_never : (cones : List Rows) (pairs : ℕ) (e : BasisTestError) (x : Overflow) → AreBasesRefused n fs cones pairs e →
      refusals.Overflow x ≡ of_basis_test e → ⊥
  at_bases_never cones pairs e x (AreBasesRefused.at_basis bases s r l m h k) q =
      with_basis_never cones s pairs r x (l.only s (among_of bases s (reached_in _ bases s m))) h (q ∙ ap of_basis_test k)
  at_bases_never cones pairs e x (AreBasesRefused.at_search r h k) q =
      tree_never (ideal_by n fs) pairs r x (λ o i. refusals_tell_no_overflow.search (ideal_by n fs) pairs o two i) h (q ∙ ap of_basis_test k)
  at_bases_never cones pairs e x (AreBasesRefused.no_memory k) q = let m : refusals.Overflow x ≡ refusals.Memory = q ∙ ap of_basis_test k in cc

  verdict_never : (pairs : ℕ) (e : BasisTestError) (x : Overflow) → IsVerdictRefusal n fs pairs e → refusals.Overflow x ≡ of_basis_test e → ⊥
  verdict_never pairs e x (IsVerdictRefusal.at_prevariety r h k) q = prevariety_never r x (q ∙ ap of_basis_test k)
  verdict_never pairs e x (IsVerdictRefusal.at_root r h k) q = basis_never MonomialOrder.deglex n fs pairs r x two h.0 (q ∙ ap of_basis_test k)
  verdict_never pairs e x (IsVerdictRefusal.at_bases l p h) q = at_bases_never _ pairs e x h q
  verdict_never pairs e x (IsVerdictRefusal.no_memory k) q = let m : refusals.Overflow x ≡ refusals.Memory = q ∙ ap of_basis_test k in cc

module _ (source : List ℕ) (b : BeginsPlainly source) where
  fan_source_never : (x : Overflow) → IsRefusedOn (intersection_by false) (source ∷ []) (refusals.Overflow x) → ⊥
  fan_source_never x (IsRefusedOn.in_text e h q) =
      set_text_never source b false x (subst (λ d. IsTextRefused (ring_set_vector false) source d) (tells_text e x q) h)
  fan_source_never x (IsRefusedOn.behind_text v r (IsUnanswered.in_form (inl f))) = f
  fan_source_never x (IsRefusedOn.behind_text v r (IsUnanswered.in_form (inr (k, inl f)))) = f
  fan_source_never x (IsRefusedOn.behind_text v r (IsUnanswered.in_form (inr (k, inr (l, f))))) = f
  fan_source_never x (IsRefusedOn.behind_text v r (IsUnanswered.in_work f (IsNoTropicalText.in_system o h q))) = cc
  fan_source_never x (IsRefusedOn.behind_text v r (IsUnanswered.in_work f (IsNoTropicalText.too_wide h w i k q))) = cc
  fan_source_never x (IsRefusedOn.behind_text v r (IsUnanswered.in_work f (IsNoTropicalText.no_memory q))) = cc
  fan_source_never x (IsRefusedOn.behind_text v r (IsUnanswered.no_memory m)) = cc
  fan_source_never x (IsRefusedOn.no_memory m) = cc

  test_source_never : (x : Overflow) → IsRefusedOn (intersection_by true) (source ∷ []) (refusals.Overflow x) → ⊥
  test_source_never x (IsRefusedOn.in_text e h q) =
      set_text_never source b false x (subst (λ d. IsTextRefused (ring_set_vector false) source d) (tells_text e x q) h)
  test_source_never x (IsRefusedOn.behind_text v r (IsUnanswered.in_form (inl f))) = f
  test_source_never x (IsRefusedOn.behind_text v r (IsUnanswered.in_form (inr (k, inl f)))) = f
  test_source_never x (IsRefusedOn.behind_text v r (IsUnanswered.in_form (inr (k, inr (l, f))))) = f
  test_source_never x (IsRefusedOn.behind_text v r (IsUnanswered.in_work f w)) =
      verdict_never (length v.0) (generators_of v.1.0) (sets_variables v.0 (from source r.read.behind) r.read.two.behind v.1.0 r.read.two.one)
      (set_binomials source b r.read.behind v.0 r.read.two.behind v.1.0 r.read.one r.read.two.one) _ w.error x w.refused w.told
  test_source_never x (IsRefusedOn.behind_text v r (IsUnanswered.no_memory m)) = cc
  test_source_never x (IsRefusedOn.no_memory m) = cc

pub tropical_never : (basis_test : Bool) (texts : List (List ℕ)) (x : Overflow) → IsPlainSource texts →
    IsRefusedOn (intersection_by basis_test) texts (refusals.Overflow x) → ⊥
tropical_never basis_test [] x b h = b
tropical_never false (source ∷ []) x b h = fan_source_never source b x h
tropical_never true (source ∷ []) x b h = test_source_never source b x h
tropical_never basis_test (source ∷ (other ∷ others)) x b h = b
