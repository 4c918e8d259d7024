-- The basis of a file that a list goes on behind: it is taken, and listed below the root, in one way.
-- To cite: names_check, first_difference_once, names_differ; beside_numbers, beside_once, named_beside; cut_one, cut_region, generators_have, taken_once,
-- starts_once; outside_once, inside_apart,
-- unlisted_set, unlisted_generators, taken_node, listed_refutes, listed_node, listed_tree. The rest are steps.
use Rattle.std.specs.Prelude.{◌≡◌, ◌≢◌, ◌⊎◌, ℕ, zero, suc, ◌<◌, ◌≤◌, Bool, true, false, List, [], ◌∷◌, length, map, slice_index_or, Contains, All, Some, ℤ}
use Rattle.std.proofs.Common.{arith, refl, sym, ap, ap₂, ◌∙◌, subst, inl, inr}
use Rattle.std.proofs.lemmas.Bool.{cases_lt}
use Rattle.std.proofs.lemmas.List.Sorted.{Contains-permutation, IsPermutation-sym}
use Rattle.gf_exponents_theory.specs.Exponents.{Exponents}
use Rattle.gf_exponents_theory.specs.Orders.{gains, IsWeightedBelow}
use Rattle.gf_exponents_theory.proofs.ExponentsLaws.{same-refl}
use Rattle.gf_exponents_theory.proofs.OrderLaws.{weighted-order}
use Rattle.gf_int_theory.proofs.ListLaws.{Contains-here, all_by}
use Rattle.gf_poly.specs.Polynomial.{Terms, HasVariables, IsDescending}
use Rattle.gf_poly.specs.Marking.{MarkedPolynomial, MarkedPolynomials, HaveVariables, polys, IsArranged}
use Rattle.gf_poly.proofs.CoefficientLaws.{descending_unique}
use Rattle.gf_ideal_theory.specs.Membership.{IsMember, IsInVariables, AreInVariables, AreSameIdeal}
use Rattle.gf_ideal_theory.specs.NormalForms.{IsNormalForm}
use Rattle.gf_ideal_theory.specs.Bases.{IsBasis, AreArranged}
use Rattle.gf_ideal_theory.proofs.ArrangedLists.{arranged_equal}
use Rattle.gf_ideal_theory.proofs.ListLaws.{Contains-there, contained_each}
use Rattle.gf_ideal_theory.proofs.ListedTerms.{variables_by_terms}
use Rattle.gf_ideal_theory.proofs.PieceLaws.{Contains-marked}
use Rattle.gf_ideal_theory.proofs.LawsOfBasesHold.{membership_is_decided}
use Rattle.gf_ideal_theory.proofs.MembershipLaws.{member-generator, member-trans, same_ideal, variables_of_member}
use Rattle.gf_ideal_theory.proofs.NormalFormLaws.{normal_form-reached, normal_form-unique}
use Rattle.gf_ideal_theory.proofs.StepLaws.{monic-monomials}
use Rattle.gf_ideal_theory.proofs.UniquenessLaws.{unique_by_order}
use Rattle.gf_division.proofs.ReducerLaws.{member_contained}
use Rattle.gf_reduced.specs.declared.error.CheckError.{CheckError}
use Rattle.gf_reduced.specs.declared.error.CheckError.TheVariants as check_errors
use Rattle.gf_reduced.specs.Forms.{monic_of, monic_set}
use Rattle.gf_reduced.specs.Markings.{IsMarkedGroebnerBasis, IsRealisableBeside, IsInconsistentBeside}
use Rattle.gf_reduced.specs.Terms.{AreReduced, IsFirstOffending}
use Rattle.gf_reduced.specs.Pairs.{IsFirstFailing}
use Rattle.gf_reduced.specs.Refusals.{IsWeightRefusalBeside, IsTermsFault, IsPairsFault, IsReducedRefusalBeside}
use Rattle.gf_reduced.proofs.FormLaws.{forms-variables, is_form, form_of}
use Rattle.gf_reduced.proofs.GroebnerLaws.{failing_refutes}
use Rattle.gf_reduced.proofs.RefusalLaws.{no_first}
use Rattle.gf_facets_theory.specs.Regions.{Region, IsRegion, IsInRegion}
use Rattle.gf_facets_theory.specs.Facets.{IsInOpenCone, IsStrictlyMarked}
use Rattle.gf_facets_theory.proofs.SystemLaws.{all_positive-region, marks_of_open}
use Rattle.gf_bases_theory.proofs.LawsHold.{only_ideals_count}
use Rattle.gf_reverse_theory.specs.Upward.{IsNode, IsNodeIn, fan_of}
use Rattle.gf_reverse_theory.proofs.TreeLaws.{node_moved, own_fan, back_fan}
use Rattle.gf_tree.specs.TreeError.{TreeError}
use Rattle.gf_tree.specs.Ideals.{ideal_within}
use Rattle.gf_tree.specs.Refusals.{IsTreeRefusal}
use Rattle.gf_tree.proofs.RefusalLaws.{refusal_moved}
use Rattle.gf_weights.proofs.RegionLaws.{regions_are_one}
use Rattle.gf_text.specs.declared.written.Written.{Written}
use Rattle.gf_text.specs.Sets.{AreIn}
use Rattle.gf_front.specs.declared.refusal.Refusal.{Refusal}
use Rattle.gf_front.specs.declared.refusal.Refusal.TheVariants as refusals
use Rattle.gf_items.specs.Refusals.{IsExactRefusal, IsOfTest, IsOfNumbers, TellsSame}
use Rattle.gf_items.proofs.CheckLaws.{IsCheckedOnce}
use Rattle.gfan_common.specs.Forms.{generators_of}
use Rattle.gf_lists_theory.specs.Starts.{StartsIn}
use Rattle.gfan_common.specs.CheckedSets.{of_check}
use Rattle.gfan_common.specs.Refused.{IsNamedBy}
use Rattle.gfan_lists.specs.After.{IsFirstDifference, IsOtherRing, same_names, IsBasisTaken, LeaveZero, IsFirstOutside, IsSomeOutside, IsListedBy, IsUnlisted}
use Rattle.gfan_lists.specs.After.{IsRegionCut}
use Rattle.gfan_common.proofs.WrittenSetLaws.{in_ring, lent_names}
use Rattle.gfan_common.proofs.ReadSetLaws.{IsKeptMember, IsSetKept, set_variables}
use Rattle.gfan_common.proofs.CheckedSetLaws.{lent_terms, printed_length, named_numbers, poly_numbers, poly_untested, failing_once, offending_once}

-- ---- the names of a ring

within_names : (found names : List (List ℕ)) (j : ℕ) → IsFirstDifference found names j → (j ≤ length found) × (j ≤ length names)
within_names found names j q = elim (q.differ) [
  | inl d ↦ (omega (arith, d.0), omega (arith, d.1))
  | inr d ↦ elim d [
    | inl e ↦ (omega (arith, e.0), omega (arith, e.1))
    | inr e ↦ (omega (arith, e.1), omega (arith, e.0))
  ]
]

differ_before : (found names : List (List ℕ)) (i j : ℕ) → IsFirstDifference found names i → IsFirstDifference found names j → i < j → ⊥
differ_before found names i j p q l =
    let n : (j ≤ length found) × (j ≤ length names) = within_names found names j q in
    elim (p.differ) [
      | inl d ↦ d.2 (q.before i l)
      | inr d ↦ elim d [
        | inl e ↦ omega (arith, e.0, n.0, l)
        | inr e ↦ omega (arith, e.0, n.1, l)
      ]
    ]

pub first_difference_once : (found names : List (List ℕ)) (i j : ℕ) → IsFirstDifference found names i → IsFirstDifference found names j → j ≡ i
first_difference_once found names i j p q = elim (cases_lt i j) [
  | inl l ↦ absurd (differ_before found names i j p q l)
  | inr m ↦ elim (cases_lt j i) [
    | inl l ↦ absurd (differ_before found names j i q p l)
    | inr o ↦ omega (arith, m, o)
  ]
]

pub names_differ : (found names : List (List ℕ)) (i : ℕ) → IsFirstDifference found names i → found ≡ names → ⊥
names_differ found names i p e =
    let n : length found ≡ length names = ap length e in
    elim (p.differ) [
      | inl d ↦ d.2 (ap (λ (x : List (List ℕ)). slice_index_or x i []) e)
      | inr d ↦ elim d [
        | inl w ↦ omega (arith, w.0, w.1, n)
        | inr w ↦ omega (arith, w.0, w.1, n)
      ]
    ]

pub names_check : (found names : List (List ℕ)) → IsCheckedOnce (same_names found names)
names_check found names = record { once = once; apart = apart; kind = kind }
  where
    once : (r d : Refusal) → IsOtherRing found names r → IsOtherRing found names d → d ≡ r
    once (refusals.OtherRing i) (refusals.OtherRing j) h k = ap (λ z. refusals.OtherRing z) (first_difference_once found names i j h k)
    once (refusals.OtherRing i) _ h k = absurd k
    once _ d h k = absurd h

    apart : (r : Refusal) → found ≡ names → IsOtherRing found names r → ⊥
    apart (refusals.OtherRing i) e h = names_differ found names i h e
    apart _ e h = h

    kind : (r : Refusal) → IsOtherRing found names r → IsExactRefusal r
    kind (refusals.OtherRing i) h = inr tt
    kind _ h = absurd h

-- ---- the region

pub cut_one : (in_region : Bool) (n : ℕ) (rows : List (List ℤ)) (k j : Region) → IsRegionCut in_region n rows k → IsRegionCut in_region n rows j → k ≡ j
cut_one false n rows k j p q = p ∙ sym q
cut_one true n rows k j p q = regions_are_one.one n rows k j p q

-- it has a root, and rows of its width
pub cut_region : (in_region : Bool) (n : ℕ) (rows : List (List ℤ)) (k : Region) → IsRegionCut in_region n rows k → IsRegion n k
cut_region false n rows k i = subst (IsRegion n) (sym i) (all_positive-region n)
cut_region true n rows k i = i.region

-- ---- generators

pub generators_have : (n : ℕ) (set : List Written) → AreIn n set → All (HasVariables n) (generators_of set)
generators_have n set v = all_by (HasVariables n) (generators_of set) (λ f c. (in_ring n set (generators_of set) v refl).each f c)

-- ---- a set is taken as a reduced basis

module _ (rows : List (List ℤ)) (s : MarkedPolynomials) where
  weight_numbers : (e : CheckError) → IsRealisableBeside s.variables rows s.items → IsWeightRefusalBeside rows 0 s e → IsOfNumbers (of_check e)
  weight_numbers (check_errors.Overflow o) r h = absurd h
  weight_numbers (check_errors.Exponent o) r h = absurd h
  weight_numbers (check_errors.NotReduced set i x) r h = absurd h
  weight_numbers (check_errors.NotBasis set i j t) r h = absurd h
  weight_numbers (check_errors.Inconsistent set ms) r h = absurd (h.1.none r)
  weight_numbers (check_errors.Cone o) r h = tt
  weight_numbers check_errors.Memory r h = tt

  terms_numbers : (e : CheckError) → AreReduced s.items → IsTermsFault 0 s.items e → IsOfNumbers (of_check e)
  terms_numbers (check_errors.Overflow o) a h = absurd h
  terms_numbers (check_errors.Exponent o) a h = absurd h
  terms_numbers (check_errors.NotReduced set i x) a h = absurd (no_first s.items i x a h.1)
  terms_numbers (check_errors.NotBasis set i j t) a h = absurd h
  terms_numbers (check_errors.Inconsistent set ms) a h = absurd h
  terms_numbers (check_errors.Cone o) a h = absurd h
  terms_numbers check_errors.Memory a h = absurd h

  pairs_numbers : (e : CheckError) → HaveVariables s.variables s.items → IsMarkedGroebnerBasis s.variables s.items → IsPairsFault 0 (map monic_of s.items) e →
      IsOfNumbers (of_check e)
  pairs_numbers (check_errors.Overflow o) v g h = tt
  pairs_numbers (check_errors.Exponent o) v g h = tt
  pairs_numbers (check_errors.NotReduced set i x) v g h = absurd h
  pairs_numbers (check_errors.NotBasis set i j t) v g h = absurd (failing_refutes s.variables s.items i j t v h.1.first.remainder h.1.first.nonzero g)
  pairs_numbers (check_errors.Inconsistent set ms) v g h = absurd h
  pairs_numbers (check_errors.Cone o) v g h = absurd h
  pairs_numbers check_errors.Memory v g h = tt

  -- where it is one, only numbers refuse it
  pub beside_numbers : (e : CheckError) → HaveVariables s.variables s.items → IsRealisableBeside s.variables rows s.items →
      IsMarkedGroebnerBasis s.variables s.items → AreReduced s.items → IsReducedRefusalBeside rows 0 s e → IsOfNumbers (of_check e)
  beside_numbers e v r g a (IsReducedRefusalBeside.at_forms d h q) = subst (λ z. IsOfNumbers (of_check z)) (sym q) (poly_numbers d)
  beside_numbers e v r g a (IsReducedRefusalBeside.at_weight h) = weight_numbers e r h
  beside_numbers e v r g a (IsReducedRefusalBeside.at_terms x h) = terms_numbers e a h
  beside_numbers e v r g a (IsReducedRefusalBeside.at_pairs x y h) = pairs_numbers e v g h

  same_weight : (set : ℕ) (ms : List ℤ) (d : CheckError) → (set ≡ 0) × IsInconsistentBeside s.variables rows s.items ms → IsWeightRefusalBeside rows 0 s d →
      TellsSame (refusals.Inconsistent set ms) (of_check d) ⊎ IsOfNumbers (of_check d)
  same_weight set ms (check_errors.Overflow o) h g = absurd g
  same_weight set ms (check_errors.Exponent o) h g = absurd g
  same_weight set ms (check_errors.NotReduced other l y) h g = absurd g
  same_weight set ms (check_errors.NotBasis other l m z) h g = absurd g
  same_weight set ms (check_errors.Inconsistent other ns) h g = inl (g.0 ∙ sym h.0)
  same_weight set ms (check_errors.Cone o) h g = inr tt
  same_weight set ms check_errors.Memory h g = inr tt

  weight_once : (e d : CheckError) → IsOfTest (of_check e) → IsWeightRefusalBeside rows 0 s e → IsReducedRefusalBeside rows 0 s d →
      TellsSame (of_check e) (of_check d) ⊎ IsOfNumbers (of_check d)
  weight_once (check_errors.Overflow o) d t h k = absurd t
  weight_once (check_errors.Exponent o) d t h k = absurd t
  weight_once (check_errors.NotReduced set i x) d t h k = absurd h
  weight_once (check_errors.NotBasis set i j z) d t h k = absurd h
  weight_once (check_errors.Inconsistent set ms) d t h (IsReducedRefusalBeside.at_forms x f q) =
      inr (subst (λ z. IsOfNumbers (of_check z)) (sym q) (poly_numbers x))
  weight_once (check_errors.Inconsistent set ms) d t h (IsReducedRefusalBeside.at_weight g) = same_weight set ms d h g
  weight_once (check_errors.Inconsistent set ms) d t h (IsReducedRefusalBeside.at_terms r g) = absurd (h.1.none r)
  weight_once (check_errors.Inconsistent set ms) d t h (IsReducedRefusalBeside.at_pairs r u g) = absurd (h.1.none r)
  weight_once (check_errors.Cone o) d t h k = absurd t
  weight_once check_errors.Memory d t h k = absurd t

  same_terms : (set i : ℕ) (x : Exponents) (d : CheckError) → (set ≡ 0) × IsFirstOffending s.items i x → IsTermsFault 0 s.items d →
      TellsSame (refusals.NotReduced set i x) (of_check d) ⊎ IsOfNumbers (of_check d)
  same_terms set i x (check_errors.Overflow o) h g = absurd g
  same_terms set i x (check_errors.Exponent o) h g = absurd g
  same_terms set i x (check_errors.NotReduced other l y) h g =
      let one = offending_once s.items i l x y h.1 g.1 in
      let sets : other ≡ set = g.0 ∙ sym h.0 in
      inl (λ w. refusals.NotReduced (sets w) (one.0 w) (one.1 w))
  same_terms set i x (check_errors.NotBasis other l m z) h g = absurd g
  same_terms set i x (check_errors.Inconsistent other ns) h g = absurd g
  same_terms set i x (check_errors.Cone o) h g = absurd g
  same_terms set i x check_errors.Memory h g = absurd g

  terms_once : (e d : CheckError) → IsRealisableBeside s.variables rows s.items → IsTermsFault 0 s.items e → IsReducedRefusalBeside rows 0 s d →
      TellsSame (of_check e) (of_check d) ⊎ IsOfNumbers (of_check d)
  terms_once (check_errors.Overflow o) d r h k = absurd h
  terms_once (check_errors.Exponent o) d r h k = absurd h
  terms_once (check_errors.NotReduced set i x) d r h (IsReducedRefusalBeside.at_forms y f q) =
      inr (subst (λ z. IsOfNumbers (of_check z)) (sym q) (poly_numbers y))
  terms_once (check_errors.NotReduced set i x) d r h (IsReducedRefusalBeside.at_weight g) = inr (weight_numbers d r g)
  terms_once (check_errors.NotReduced set i x) d r h (IsReducedRefusalBeside.at_terms a g) = same_terms set i x d h g
  terms_once (check_errors.NotReduced set i x) d r h (IsReducedRefusalBeside.at_pairs a u g) = absurd (no_first s.items i x u h.1)
  terms_once (check_errors.NotBasis set i j z) d r h k = absurd h
  terms_once (check_errors.Inconsistent set ms) d r h k = absurd h
  terms_once (check_errors.Cone o) d r h k = absurd h
  terms_once check_errors.Memory d r h k = absurd h

  same_pairs : (set i j : ℕ) (t : Terms) (d : CheckError) → HaveVariables s.variables s.items → (set ≡ 0) × IsFirstFailing (map monic_of s.items) i j t →
      IsPairsFault 0 (map monic_of s.items) d → TellsSame (refusals.NotBasis set i j t) (of_check d) ⊎ IsOfNumbers (of_check d)
  same_pairs set i j t (check_errors.Overflow o) v h g = inr tt
  same_pairs set i j t (check_errors.Exponent o) v h g = inr tt
  same_pairs set i j t (check_errors.NotReduced other l y) v h g = absurd g
  same_pairs set i j t (check_errors.NotBasis other l m z) v h g =
      let one = failing_once s.variables (map monic_of s.items) (forms-variables s.variables s.items v) i j l m t z h.1 g.1 in
      let sets : other ≡ set = g.0 ∙ sym h.0 in
      inl (λ w. refusals.NotBasis (sets w) (one.0 w) (one.1 w) (one.2 w))
  same_pairs set i j t (check_errors.Inconsistent other ns) v h g = absurd g
  same_pairs set i j t (check_errors.Cone o) v h g = absurd g
  same_pairs set i j t check_errors.Memory v h g = inr tt

  pairs_once : (e d : CheckError) → HaveVariables s.variables s.items → IsOfTest (of_check e) → IsRealisableBeside s.variables rows s.items →
      AreReduced s.items → IsPairsFault 0 (map monic_of s.items) e → IsReducedRefusalBeside rows 0 s d →
      TellsSame (of_check e) (of_check d) ⊎ IsOfNumbers (of_check d)
  pairs_once (check_errors.Overflow o) d v t r a h k = absurd t
  pairs_once (check_errors.Exponent o) d v t r a h k = absurd t
  pairs_once (check_errors.NotReduced set i x) d v t r a h k = absurd h
  pairs_once (check_errors.NotBasis set i j z) d v t r a h (IsReducedRefusalBeside.at_forms y f q) =
      inr (subst (λ w. IsOfNumbers (of_check w)) (sym q) (poly_numbers y))
  pairs_once (check_errors.NotBasis set i j z) d v t r a h (IsReducedRefusalBeside.at_weight g) = inr (weight_numbers d r g)
  pairs_once (check_errors.NotBasis set i j z) d v t r a h (IsReducedRefusalBeside.at_terms b g) = inr (terms_numbers d a g)
  pairs_once (check_errors.NotBasis set i j z) d v t r a h (IsReducedRefusalBeside.at_pairs b u g) = same_pairs set i j z d v h g
  pairs_once (check_errors.Inconsistent set ms) d v t r a h k = absurd h
  pairs_once (check_errors.Cone o) d v t r a h k = absurd h
  pairs_once check_errors.Memory d v t r a h k = absurd t

  -- it is refused in one way, unless numbers of the work don't fit
  pub beside_once : (e d : CheckError) → HaveVariables s.variables s.items → IsOfTest (of_check e) → IsReducedRefusalBeside rows 0 s e →
      IsReducedRefusalBeside rows 0 s d → TellsSame (of_check e) (of_check d) ⊎ IsOfNumbers (of_check d)
  beside_once e d v t (IsReducedRefusalBeside.at_forms x h q) k = absurd (poly_untested x (subst (λ z. IsOfTest (of_check z)) q t))
  beside_once e d v t (IsReducedRefusalBeside.at_weight h) k = weight_once e d t h k
  beside_once e d v t (IsReducedRefusalBeside.at_terms r h) k = terms_once e d r h k
  beside_once e d v t (IsReducedRefusalBeside.at_pairs r a h) k = pairs_once e d v t r a h k

  -- and is told with the names of the ring
  module _ (ring : List (List ℕ)) (v : IsSetKept (length ring) s) where
    named_weight : (e : CheckError) → IsWeightRefusalBeside rows 0 s e → IsNamedBy (Some ring) (of_check e)
    named_weight (check_errors.Overflow o) h = λ lent is. tt
    named_weight (check_errors.Exponent o) h = λ lent is. tt
    named_weight (check_errors.NotReduced set i x) h = absurd h
    named_weight (check_errors.NotBasis set i j t) h = absurd h
    named_weight (check_errors.Inconsistent set ms) h = λ lent is. tt
    named_weight (check_errors.Cone o) h = λ lent is. tt
    named_weight check_errors.Memory h = λ lent is. tt

    named_terms : (e : CheckError) → IsTermsFault 0 s.items e → IsNamedBy (Some ring) (of_check e)
    named_terms (check_errors.Overflow o) h = λ lent is. tt
    named_terms (check_errors.Exponent o) h = λ lent is. tt
    named_terms (check_errors.NotReduced set i x) h = λ lent is.
        let f = h.1.first in
        lent_names ring x lent is (printed_length (length ring) f.member f.earlier f.later x (contained_each (IsKeptMember (length ring)) s.items v.1 f.member
        (member_contained s.items i f.member f.at)) f.printed)
    named_terms (check_errors.NotBasis set i j t) h = absurd h
    named_terms (check_errors.Inconsistent set ms) h = λ lent is. tt
    named_terms (check_errors.Cone o) h = λ lent is. tt
    named_terms check_errors.Memory h = λ lent is. tt

    named_pairs : (e : CheckError) → IsPairsFault 0 (map monic_of s.items) e → IsNamedBy (Some ring) (of_check e)
    named_pairs (check_errors.Overflow o) h = λ lent is. tt
    named_pairs (check_errors.Exponent o) h = λ lent is. tt
    named_pairs (check_errors.NotReduced set i x) h = absurd h
    named_pairs (check_errors.NotBasis set i j t) h = λ lent is.
        lent_terms ring t lent is (subst (λ n. HasVariables n t) v.0
        (h.1.first.remainder.variables s.variables (forms-variables s.variables s.items (set_variables (length ring) s v))))
    named_pairs (check_errors.Inconsistent set ms) h = λ lent is. tt
    named_pairs (check_errors.Cone o) h = λ lent is. tt
    named_pairs check_errors.Memory h = λ lent is. tt

    pub named_beside : (e : CheckError) → IsReducedRefusalBeside rows 0 s e → IsNamedBy (Some ring) (of_check e)
    named_beside e (IsReducedRefusalBeside.at_forms d h q) = subst (λ z. IsNamedBy (Some ring) (of_check z)) (sym q) (named_numbers ring d)
    named_beside e (IsReducedRefusalBeside.at_weight h) = named_weight e h
    named_beside e (IsReducedRefusalBeside.at_terms r h) = named_terms e h
    named_beside e (IsReducedRefusalBeside.at_pairs r a h) = named_pairs e h

-- ---- one basis, and one root

-- members of two arrangements of one list
among_both : (s b c : MarkedPolynomials) → IsArranged (monic_set s) b → IsArranged (monic_set s) c → (x : MarkedPolynomial) → Contains b.items x →
    Contains c.items x
among_both s b c p q x h =
    Contains-permutation (map monic_of s.items) c.items x q.members (Contains-permutation b.items (map monic_of s.items) x
    (IsPermutation-sym (map monic_of s.items) b.items p.members) h)

pub taken_once : (k : Region) (s b c : MarkedPolynomials) → IsBasisTaken k s b → IsBasisTaken k s c → b ≡ c
taken_once k s b c p q = ap₂ (λ (n : ℕ) (bs : List MarkedPolynomial). record { variables = n; items = bs }) (p.arranged.variables ∙ sym q.arranged.variables)
    same
  where
    first : AreArranged s.variables b.items
    first = subst (λ n. AreArranged n b.items) p.arranged.variables p.basis.reduced.arranged

    second : AreArranged s.variables c.items
    second = subst (λ n. AreArranged n c.items) q.arranged.variables q.basis.reduced.arranged

    same : b.items ≡ c.items
    same = arranged_equal s.variables b.items c.items first second (record {
      there = λ x h. (x, among_both s b c p.arranged q.arranged x h, record { head = same-refl x.head; poly = λ e. refl });
      back = λ x h. (x, among_both s c b q.arranged p.arranged x h, record { head = same-refl x.head; poly = λ e. refl });
    })

pub starts_once : (n : ℕ) (k : Region) (fs : List Terms) (root top : MarkedPolynomials) → StartsIn n k fs root → StartsIn n k fs top → root ≡ top
starts_once n k fs root top p q =
    ap₂ (λ (m : ℕ) (bs : List MarkedPolynomial). record { variables = m; items = bs }) (p.node.variables ∙ sym q.node.variables)
    (arranged_equal n root.items top.items p.node.basis.arranged q.node.basis.arranged (unique_by_order n fs (IsWeightedBelow (gains k.root))
    root.items top.items (weighted-order (gains k.root)) p.by_root q.by_root))

-- ---- remainders

place_contained : (gs : List Terms) (i : ℕ) → i < length gs → Contains gs (slice_index_or gs i [])
place_contained [] i l = absurd (omega (arith, l))
place_contained (g ∷ gs) zero l = Contains-here g gs
place_contained (g ∷ gs) (suc i) l = Contains-there g (slice_index_or gs i []) gs (place_contained gs i (omega (arith, l)))

zero_apart : (by : MarkedPolynomials) (h f : Terms) → HasVariables by.variables f → IsDescending f → f ≢ [] → IsNormalForm by.items h f →
    IsNormalForm by.items h [] → ⊥
zero_apart by h f v d z p q = z (descending_unique by.variables f [] v tt d tt (normal_form-unique by.items h h f [] (λ x. refl) p q))

pub inside_apart : (by : MarkedPolynomials) (gs : List Terms) (i : ℕ) (f : Terms) → LeaveZero by.items gs → IsFirstOutside by gs i f → ⊥
inside_apart by gs i f a p = zero_apart by (slice_index_or gs i []) f p.variables p.descending p.nonzero p.remainder
    (a (slice_index_or gs i []) (place_contained gs i p.inside))

pub outside_once : (by : MarkedPolynomials) (gs : List Terms) (i j : ℕ) (f g : Terms) → IsFirstOutside by gs i f → IsFirstOutside by gs j g → (j ≡ i) × (g ≡ f)
outside_once by gs i j f g p q = (
  same_index,
  sym (descending_unique by.variables f g p.variables q.variables p.descending q.descending
      (normal_form-unique by.items (slice_index_or gs i []) (slice_index_or gs i []) f g (λ x. refl) p.remainder moved.remainder)),
)
  where
    same_index : j ≡ i
    same_index = elim (cases_lt i j) [
      | inl l ↦ absurd (zero_apart by (slice_index_or gs i []) f p.variables p.descending p.nonzero p.remainder (q.before i l))
      | inr m ↦ elim (cases_lt j i) [
        | inl l ↦ absurd (zero_apart by (slice_index_or gs j []) g q.variables q.descending q.nonzero q.remainder (p.before j l))
        | inr o ↦ omega (arith, m, o)
      ]
    ]

    moved : IsFirstOutside by gs i g
    moved = subst (λ z. IsFirstOutside by gs z g) same_index q

-- a basis of an ideal leaves no member outside
members_inside : (by : MarkedPolynomials) (fs gs : List Terms) (i : ℕ) (f : Terms) → AreInVariables by.variables fs → IsBasis by.variables fs by.items →
    ((g : Terms) → Contains gs g → IsMember by.variables fs g) → IsFirstOutside by gs i f → ⊥
members_inside by fs gs i f v b m p =
    let g = slice_index_or gs i [] in
    p.nonzero (descending_unique by.variables f [] p.variables tt p.descending tt
    (membership_is_decided.zero by.variables fs by.items g f v b (m g (place_contained gs i p.inside)) (normal_form-reached by.items g f p.remainder.reached)
    p.remainder.irreducible))

-- which side is told

pub unlisted_set : (fs ms : List Terms) (s root b : MarkedPolynomials) (r : Refusal) → ms ≡ polys s.items → IsSomeOutside 0 root ms r → IsUnlisted fs s root b r
unlisted_set fs ms s root b r q h = at (subst (λ (gs : List Terms). IsSomeOutside 0 root gs r) q h)
  where
    at : IsSomeOutside 0 root (polys s.items) r → IsUnlisted fs s root b r
    at (inl x) = IsUnlisted.at_basis x.0 x.1 x.2 x.3
    at (inr x) = IsUnlisted.in_basis x.0 x.1 x.2

pub unlisted_generators : (fs : List Terms) (s root b : MarkedPolynomials) (r : Refusal) → LeaveZero root.items (polys s.items) → IsSomeOutside 1 b fs r →
    IsUnlisted fs s root b r
unlisted_generators fs s root b r a (inl x) = IsUnlisted.at_generator x.0 x.1 a x.2 x.3
unlisted_generators fs s root b r a (inr x) = IsUnlisted.in_generators x.0 x.1 x.2

-- ---- the basis is listed below the root exactly where it is one of the ideal

module _ (n : ℕ) (k : Region) (fs : List Terms) (s root b : MarkedPolynomials) (q : s.variables ≡ n) (first : StartsIn n k fs root)
    (t : IsBasisTaken k s b) where
  counted : b.variables ≡ n
  counted = t.arranged.variables ∙ q

  both : AreSameIdeal n (polys s.items) (polys b.items)
  both = subst (λ m. AreSameIdeal m (polys s.items) (polys b.items)) q t.basis.basis.ideal

  b_inside : AreInVariables n (polys b.items)
  b_inside f c =
      let m = Contains-marked b.items f c in
      subst (IsInVariables n) m.2 (variables_by_terms n m.0.poly
      (subst (λ j. HasVariables j m.0.poly) counted (t.basis.reduced.arranged.canonical m.0 m.1).variables))

  s_inside : AreInVariables n (polys s.items)
  s_inside f c = variables_of_member n (polys b.items) f b_inside (both.inside f (member-generator n (polys s.items) f c))

  own_basis : IsBasis n (polys b.items) b.items
  own_basis = subst (λ m. IsBasis m (polys b.items) b.items) counted t.basis.basis.basis

  module _ (j : IsNodeIn (ideal_within n fs k) b) where
    ideal_own : AreSameIdeal n fs (polys b.items)
    ideal_own = (only_ideals_count.generated n fs b.items first.node.fan.ideal (record { reduced = j.basis.reduced; arranged = j.basis.arranged })).1

    set_members : (f : Terms) → Contains (polys s.items) f → IsMember n fs f
    set_members f c = ideal_own.back f (both.inside f (member-generator n (polys s.items) f c))

    -- where it is one of the ideal, it isn't refused as unlisted
    pub listed_refutes : (r : Refusal) → IsOfTest r → IsUnlisted fs s root b r → ⊥
    listed_refutes r o (IsUnlisted.at_basis i f h e) =
        members_inside root fs (polys s.items) i f (subst (λ m. AreInVariables m fs) (sym first.node.variables) first.node.fan.ideal)
        (subst (λ m. IsBasis m fs root.items) (sym first.node.variables) first.node.basis.reduced.basis)
        (λ g c. subst (λ m. IsMember m fs g) (sym first.node.variables) (set_members g c)) h
    listed_refutes r o (IsUnlisted.at_generator i f a h e) =
        members_inside b fs fs i f (subst (λ m. AreInVariables m fs) (sym counted) first.node.fan.ideal)
        (subst (λ m. IsBasis m fs b.items) (sym counted) j.basis.reduced.basis)
        (λ g c. subst (λ m. IsMember m fs g) (sym counted) (member-generator n fs g c)) h
    listed_refutes r o (IsUnlisted.in_basis d h e) = poly_untested d (subst IsOfTest e o)
    listed_refutes r o (IsUnlisted.in_generators d h e) = poly_untested d (subst IsOfTest e o)

  -- a vector of the region gives its marks
  given_marks : IsInOpenCone t.weight.weight b.items
  given_marks c h =
      let f = form_of s.items c (Contains-permutation b.items (map monic_of s.items) c (IsPermutation-sym (map monic_of s.items) b.items t.arranged.members)
      h) in
      subst (IsStrictlyMarked t.weight.weight) f.2
      (λ x m. t.weight.marks f.0 f.1 x (monic-monomials f.0.poly (monic_of f.0) (is_form f.0 (t.basis.basis.marked.marks f.0 f.1).there) x m))

  given_inside : IsInRegion b.variables k t.weight.weight
  given_inside = record { width = t.weight.inside.width ∙ sym t.arranged.variables; positive = t.weight.inside.positive; rows = t.weight.inside.rows }

  -- so it is one of the ideal that it generates
  pub taken_node : IsNode k b
  taken_node = record {
    fan = record {
      ideal = subst (λ m. AreInVariables m (polys b.items)) (sym counted) b_inside;
      region = subst (λ m. IsRegion m k) (sym counted) first.node.fan.region;
    };
    variables = refl;
    basis = record {
      reduced = t.basis.reduced.reduced;
      arranged = t.basis.reduced.arranged;
      weight = t.weight.weight;
      inside = given_inside;
      marked = marks_of_open b.variables k b.items t.weight.weight given_inside (λ c h. (t.basis.basis.basis.marked.2 c h).monic) given_marks;
    };
  }

  module _ (l : IsListedBy fs s root b) where
    set_listed : (f : Terms) → Contains (polys s.items) f → IsMember n fs f
    set_listed f c = membership_is_decided.member n fs root.items f [] first.node.fan.ideal (s_inside f c) first.node.basis.reduced.basis
        (normal_form-reached root.items f [] (l.basis f c).reached) (λ x. refl)

    generators_listed : (f : Terms) → Contains fs f → IsMember n (polys b.items) f
    generators_listed f c = membership_is_decided.member n (polys b.items) b.items f [] b_inside (first.node.fan.ideal f c) own_basis
        (normal_form-reached b.items f [] (l.generators f c).reached) (λ x. refl)

    ideals : AreSameIdeal n (polys b.items) fs
    ideals = same_ideal n (polys b.items) fs b_inside first.node.fan.ideal
        (λ f c. member-trans n fs (polys s.items) f first.node.fan.ideal set_listed (both.back f (member-generator n (polys b.items) f c))) generators_listed

    -- and where it is listed one of the ideal of the root
    pub listed_node : IsNodeIn (ideal_within n fs k) b
    listed_node = node_moved (fan_of k b) (ideal_within n fs k) b (record {
      variables = counted;
      region = refl;
      ideal = ideals;
      back = record { inside = ideals.back; back = ideals.inside };
      fan = taken_node.fan;
      other = first.node.fan;
    }) taken_node

    -- a refusal of the search over the bases of its ideal is one of the search over those of the root's
    pub listed_tree : (pairs : ℕ) (e : TreeError) → IsTreeRefusal (fan_of k b) pairs e → IsTreeRefusal (ideal_within n fs k) pairs e
    listed_tree pairs e h =
        refusal_moved (fan_of k b) (ideal_within n fs k) pairs e (back_fan (ideal_within n fs k) (fan_of k b) (own_fan (ideal_within n fs k) b listed_node)) h
