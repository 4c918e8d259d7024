-- The weights of sets: how they are found, why they aren't, and that a source is answered in one way.
-- To cite: weights_joined, set_unweighed, weight_unweighed, items_more, items_all, one_read, named_one, named_list, one_unweighed, list_unweighed;
-- weight_lawful, weight_source, weight_once. The rest are steps.
use Rattle.std.specs.Prelude.{◌≡◌, ◌⊎◌, ℕ, ◌+◌, ◌<◌, ◌≤◌, Bool, true, false, List, [], ◌∷◌, ◌++◌, length, take, zip, flat_map, Contains, Some, ℤ}
use Rattle.std.specs.List.{AllZip}
use Rattle.std.proofs.Common.{arith, refl, sym, ap, ◌∙◌, subst, inl, inr, get_or, append_assoc, append-nil}
use Rattle.std.proofs.lemmas.List.{take_more, take_all}
use Rattle.std.proofs.lemmas.List.Concat.{flat_map-append}
use Rattle.std.proofs.lemmas.Slice.Zip.{length-zip, get_or-zip}
use Rattle.gf_poly.specs.Marking.{MarkedPolynomials, Each}
use Rattle.gf_ideal_theory.proofs.ListLaws.{contained_each}
use Rattle.gf_reduced.specs.declared.error.CheckError.{CheckError}
use Rattle.gf_reduced.specs.declared.error.CheckError.TheVariants as check_errors
use Rattle.gf_weights.specs.declared.error.WeightError.{WeightError}
use Rattle.gf_weights.specs.declared.error.WeightError.TheVariants as weight_errors
use Rattle.gf_weights.specs.Weights.{IsPrintedWeight}
use Rattle.gf_weights.specs.Refusals.{IsWeightCause}
use Rattle.gf_front.specs.declared.options.WeightVectorOptions.{WeightVectorOptions}
use Rattle.gf_front.specs.declared.refusal.Refusal.{Refusal}
use Rattle.gf_front.specs.declared.refusal.Refusal.TheVariants as refusals
use Rattle.gf_items.specs.Items.{IsTextOf, from}
use Rattle.gf_items.specs.Sources.{ring_marked_set, ring_marked_sets}
use Rattle.gf_items.specs.Kinds.{a_marked_set, marked_set_list}
use Rattle.gf_items.specs.Refusals.{IsOfTest, IsOfNumbers, TellsSame, IsOfWork}
use Rattle.gf_frame.specs.Loading.{Origin}
use Rattle.gf_frame.specs.Commands.{WritesOnce, IsUnanswered, IsRefusedOn}
use Rattle.gf_items.proofs.KindLaws.{ring_and_once}
use Rattle.gf_frame.proofs.ReadingLaws.{one_once, of_one_text}
use Rattle.gf_frame.proofs.CommandLaws.{IsLawful}
use Rattle.gf_frame.proofs.SoundLaws.{IsExactCommand, IsTestedCommand, sound_lawful}
use Rattle.gfan_common.specs.CheckedSets.{of_check}
use Rattle.gfan_common.specs.Causes.{of_weight_error}
use Rattle.gfan_sets.specs.WeightVector.{IsWeightOfSet, IsUnweighed, IsWeighedWithin, weight_item, later_weight_item, weights_command, weight_vector_command}
use Rattle.gfan_common.specs.ReducedSets.{IsReducedAsRead, IsRefusedFrom}
use Rattle.gfan_common.specs.Refused.{IsNamedBy}
use Rattle.gfan_common.proofs.ReadSetLaws.{IsSetKept, one_kept}
use Rattle.gfan_common.proofs.CheckedSetLaws.{check_work, check_not_listed}
use Rattle.gfan_common.proofs.CauseLaws.{weight_work, weight_untested, weight_not_listed, weight_numbers}
use Rattle.gfan_common.proofs.ReducedListLaws.{refused_named, refused_within, refused_once, refused_refutes, list_read}
use Rattle.gfan_common.proofs.ZipLaws.{zip_there, zip_back}

-- ---- how they are found

-- the weights of the bases are those of the sets
pub weights_joined : (sets bases : List MarkedPolynomials) (weights : List (List ℤ)) → AllZip IsReducedAsRead sets bases →
    AllZip (λ t v. IsPrintedWeight t.variables t.items v) bases weights → AllZip IsWeightOfSet sets weights
weights_joined [] [] [] a w = tt
weights_joined [] [] (v ∷ weights) a w = absurd w
weights_joined [] (t ∷ bases) weights a w = absurd a
weights_joined (s ∷ sets) [] weights a w = absurd a
weights_joined (s ∷ sets) (t ∷ bases) [] a w = absurd w
weights_joined (s ∷ sets) (t ∷ bases) (v ∷ weights) a w = (record { basis = t; read = a.0; weight = w.0 }, weights_joined sets bases weights a.1 w.1)

-- ---- why they aren't

pub set_unweighed : (sets : List MarkedPolynomials) (e : CheckError) (r : Refusal) → IsRefusedFrom 0 sets e ⊎ (e ≡ check_errors.Memory) → r ≡ of_check e →
    IsUnweighed sets r
set_unweighed sets e r (inl h) q = IsUnweighed.at_set e h q
set_unweighed sets e r (inr m) q = IsUnweighed.no_memory (q ∙ ap of_check m)

pub weight_unweighed : (sets bases : List MarkedPolynomials) (e : WeightError) (r : Refusal) → AllZip IsReducedAsRead sets bases →
    ((t : MarkedPolynomials) × Contains bases t × IsWeightCause t.variables t.items e) ⊎ (e ≡ weight_errors.Memory) → r ≡ of_weight_error e → IsUnweighed sets r
weight_unweighed sets bases e r a (inl h) q =
    let s = zip_back IsReducedAsRead sets bases h.0 a h.1 in
    IsUnweighed.at_weight e (λ x c. (let t = zip_there IsReducedAsRead sets bases x a c in (t.0, t.2)))
    (record { set = s.0; contained = s.1; basis = h.0; read = s.2; cause = h.2 }) q
weight_unweighed sets bases e r a (inr m) q = IsUnweighed.no_memory (q ∙ ap of_weight_error m)

-- ---- what is written

-- one more item is added
pub items_more : (echoed : Bool) (ring : List (List ℕ)) (sets : List MarkedPolynomials) (weights : List (List ℤ)) (i : ℕ) (s : MarkedPolynomials) (v : List ℤ)
    (start before comma after : List ℕ) → i < length sets → length weights ≡ length sets → s ≡ get_or sets i s → v ≡ get_or weights i v
    → before ≡ start ++ flat_map (later_weight_item echoed ring) (take i (zip sets weights)) → comma ≡ before ++ 10 ∷ 44 ∷ 10 ∷ [] →
    after ≡ comma ++ weight_item echoed ring (s, v)
    → after ≡ start ++ flat_map (later_weight_item echoed ring) (take (i + 1) (zip sets weights))
items_more echoed ring sets weights i s v start before comma after l m es ev b c a =
    let F : MarkedPolynomials × List ℤ → List ℕ = later_weight_item echoed ring in
    let zs : List (MarkedPolynomials × List ℤ) = zip sets weights in
    let here : get_or zs i (s, v) ≡ (s, v) = get_or-zip sets weights i (s, v) l (omega (arith, m)) ∙ (λ w. (sym es w, sym ev w)) in
    let long : i < length zs = omega (arith, m, length-zip sets weights) in
    let more : take (i + 1) zs ≡ take i zs ++ (s, v) ∷ [] = take_more zs i (s, v) long ∙ ap (λ (z : MarkedPolynomials × List ℤ). take i zs ++ z ∷ []) here in
    let added : flat_map F (take (i + 1) zs) ≡ flat_map F (take i zs) ++ F (s, v) = ap (λ (xs : List (MarkedPolynomials × List ℤ)). flat_map F xs) more ∙
    flat_map-append F (take i zs) ((s, v) ∷ []) ∙ ap (λ (t : List ℕ). flat_map F (take i zs) ++ t) (append-nil (F (s, v))) in
    a ∙ ap (λ (t : List ℕ). t ++ weight_item echoed ring (s, v)) (c ∙ ap (λ (t : List ℕ). t ++ 10 ∷ 44 ∷ 10 ∷ []) b)
    ∙ append_assoc (start ++ flat_map F (take i zs)) (10 ∷ 44 ∷ 10 ∷ []) (weight_item echoed ring (s, v)) ∙ append_assoc start (flat_map F (take i zs))
    (F (s, v)) ∙ ap (λ (t : List ℕ). start ++ t) (sym added)

pub items_all : (sets : List MarkedPolynomials) (weights : List (List ℤ)) (i : ℕ) → length sets ≤ i → length weights ≡ length sets →
    take i (zip sets weights) ≡ zip sets weights
items_all sets weights i l m = take_all i (zip sets weights) (omega (arith, l, m, length-zip sets weights))

-- ---- the names in lines

weight_named : (ring : List (List ℕ)) (e : WeightError) → IsNamedBy (Some ring) (of_weight_error e)
weight_named ring (weight_errors.Cone o) = λ lent is. tt
weight_named ring (weight_errors.Wide w) = λ lent is. tt
weight_named ring weight_errors.Memory = λ lent is. tt

unweighed_named : (ring : List (List ℕ)) (sets : List MarkedPolynomials) (r : Refusal) → Each (IsSetKept (length ring)) sets → IsUnweighed sets r →
    IsNamedBy (Some ring) r
unweighed_named ring sets r v (IsUnweighed.at_set e h q) = subst (IsNamedBy (Some ring)) (sym q) (refused_named 0 ring sets e v h)
unweighed_named ring sets r v (IsUnweighed.at_weight e a h q) = subst (IsNamedBy (Some ring)) (sym q) (weight_named ring e)
unweighed_named ring sets r v (IsUnweighed.no_memory m) = subst (IsNamedBy (Some ring)) (sym m) (λ lent is. tt)

-- the sets of a source have the variables of its ring
pub one_read : (source : List ℕ) (v : List (List ℕ) × MarkedPolynomials) → IsTextOf ring_marked_set source v → Each (IsSetKept (length v.0)) (v.1 ∷ [])
one_read source v read = (one_kept v.0 (from source read.read.behind) read.end v.1 read.read.two, tt)

pub named_one : (source : List ℕ) (ring : List (List ℕ)) (s : MarkedPolynomials) (r : Refusal) → IsTextOf ring_marked_set source (ring, s) →
    IsUnweighed (s ∷ []) r → IsNamedBy (Some ring) r
named_one source ring s r read h = unweighed_named ring (s ∷ []) r (one_read source (ring, s) read) h

pub named_list : (source : List ℕ) (ring : List (List ℕ)) (sets : List MarkedPolynomials) (r : Refusal) → IsTextOf ring_marked_sets source (ring, sets) →
    IsUnweighed sets r → IsNamedBy (Some ring) r
named_list source ring sets r read h = unweighed_named ring sets r (list_read source (ring, sets) read) h

-- ---- from a source on

pub one_unweighed : (echoed : Bool) (source : List ℕ) (ring : List (List ℕ)) (s : MarkedPolynomials) (r : Refusal) → IsTextOf ring_marked_set source (ring, s) →
    IsUnweighed (s ∷ []) r → IsRefusedOn (weights_command false echoed) (source ∷ []) r
one_unweighed echoed source ring s r read h = IsRefusedOn.behind_text (ring, s) read (IsUnanswered.in_work tt h)

pub list_unweighed : (echoed : Bool) (source : List ℕ) (ring : List (List ℕ)) (sets : List MarkedPolynomials) (r : Refusal) →
    IsTextOf ring_marked_sets source (ring, sets) → IsUnweighed sets r → IsRefusedOn (weights_command true echoed) (source ∷ []) r
list_unweighed echoed source ring sets r read h = IsRefusedOn.behind_text (ring, sets) read (IsUnanswered.in_work tt h)

-- ---- within limits

unweighed_work : (sets : List MarkedPolynomials) (r : Refusal) → IsUnweighed sets r → IsOfWork r
unweighed_work sets r (IsUnweighed.at_set e h q) = subst IsOfWork (sym q) (check_work e)
unweighed_work sets r (IsUnweighed.at_weight e a h q) = subst IsOfWork (sym q) (weight_work e)
unweighed_work sets r (IsUnweighed.no_memory m) = subst IsOfWork (sym m) tt

unweighed_within : (sets : List MarkedPolynomials) (r : Refusal) → ((s : MarkedPolynomials) → Contains sets s → IsWeighedWithin s) → IsUnweighed sets r →
    r ≡ refusals.Memory
unweighed_within sets r w (IsUnweighed.at_set e h q) =
    q ∙ ap of_check (refused_within 0 sets e (λ s c. (let l = w s c in record { variables = l.variables; basis = l.basis; terms = l.terms; checks = l.checks }))
    h)
unweighed_within sets r w (IsUnweighed.at_weight e a h q) = q ∙ ap of_weight_error ((w h.set h.contained).weight h.basis h.read.arranged e h.cause)
unweighed_within sets r w (IsUnweighed.no_memory m) = m

only : (s : MarkedPolynomials) → IsWeighedWithin s → (r : MarkedPolynomials) → Contains (s ∷ []) r → IsWeighedWithin r
only s w r c = contained_each IsWeighedWithin (s ∷ []) (w, tt) r c

weight_vector_exact : (listed echoed : Bool) → IsExactCommand (weights_command listed echoed)
weight_vector_exact false echoed = record {
  reading = one_once _ (ring_and_once a_marked_set []);
  checks = λ texts v h. tt;
  work = λ v r h. unweighed_work (v.1 ∷ []) r h;
  within = λ v r w h. unweighed_within (v.1 ∷ []) r (only v.1 w) h;
}
weight_vector_exact true echoed = record {
  reading = one_once _ (ring_and_once marked_set_list []);
  checks = λ texts v h. tt;
  work = λ v r h. unweighed_work v.1 r h;
  within = λ v r w h. unweighed_within v.1 r w h;
}

-- ---- no limit of a list

unweighed_not_listed : (sets : List MarkedPolynomials) (most : ℕ) → IsUnweighed sets (refusals.ListLimit most) → ⊥
unweighed_not_listed sets most (IsUnweighed.at_set e h q) = check_not_listed e most q
unweighed_not_listed sets most (IsUnweighed.at_weight e a h q) = weight_not_listed e most q
unweighed_not_listed sets most (IsUnweighed.no_memory m) = cc

-- ---- sets that aren't reduced bases

unweighed_once : (n : ℕ) (sets : List MarkedPolynomials) (r d : Refusal) → Each (IsSetKept n) sets → IsOfTest r → IsUnweighed sets r → IsUnweighed sets d →
    TellsSame r d ⊎ IsOfNumbers d
unweighed_once n sets r d v t (IsUnweighed.at_set e h q) (IsUnweighed.at_set f k p) =
    subst (λ x. TellsSame r x ⊎ IsOfNumbers x) (sym p) (subst (λ x. TellsSame x (of_check f) ⊎ IsOfNumbers (of_check f)) (sym q)
    (refused_once n 0 sets e f v (subst IsOfTest q t) h k))
unweighed_once n sets r d v t (IsUnweighed.at_set e h q) (IsUnweighed.at_weight f a k p) = inr (subst IsOfNumbers (sym p) (weight_numbers f))
unweighed_once n sets r d v t (IsUnweighed.at_set e h q) (IsUnweighed.no_memory m) = inr (subst IsOfNumbers (sym m) tt)
unweighed_once n sets r d v t (IsUnweighed.at_weight e a h q) k = absurd (weight_untested e (subst IsOfTest q t))
unweighed_once n sets r d v t (IsUnweighed.no_memory m) k = absurd (subst IsOfTest m t)

unweighed_refutes : (n : ℕ) (sets : List MarkedPolynomials) (weights : List (List ℤ)) (r : Refusal) → Each (IsSetKept n) sets → IsOfTest r →
    IsUnweighed sets r → AllZip IsWeightOfSet sets weights → ⊥
unweighed_refutes n sets weights r v t (IsUnweighed.at_set e h q) a =
    refused_refutes n 0 sets e v (subst IsOfTest q t) h (λ s c. (let w = zip_there IsWeightOfSet sets weights s a c in (w.2.basis, w.2.read)))
unweighed_refutes n sets weights r v t (IsUnweighed.at_weight e b h q) a = weight_untested e (subst IsOfTest q t)
unweighed_refutes n sets weights r v t (IsUnweighed.no_memory m) a = subst IsOfTest m t

weight_vector_tested : (listed echoed : Bool) → IsTestedCommand (weights_command listed echoed)
weight_vector_tested false echoed = record {
  tests = λ texts v r d read t h k. of_one_text ring_marked_set _ texts v read (λ source x. unweighed_once (length v.0) (v.1 ∷ []) r d (one_read source v x)
      t h k);
  answers = λ texts v r text read t h a. of_one_text ring_marked_set _ texts v read (λ source x. unweighed_refutes (length v.0) (v.1 ∷ []) a.weights r
      (one_read source v x) t h a.are_weights);
  wholes = λ texts v r text read t h a. of_one_text ring_marked_set _ texts v read (λ source x. unweighed_refutes (length v.0) (v.1 ∷ []) a.weights r
      (one_read source v x) t h a.are_weights);
}
weight_vector_tested true echoed = record {
  tests = λ texts v r d read t h k. of_one_text ring_marked_sets _ texts v read (λ source x. unweighed_once (length v.0) v.1 r d (list_read source v x) t h k);
  answers = λ texts v r text read t h a. of_one_text ring_marked_sets _ texts v read (λ source x. unweighed_refutes (length v.0) v.1 a.weights r
      (list_read source v x) t h a.are_weights);
  wholes = λ texts v r text read t h a. of_one_text ring_marked_sets _ texts v read (λ source x. unweighed_refutes (length v.0) v.1 a.weights r
      (list_read source v x) t h a.are_weights);
}

-- ---- its laws

lawful_by : (listed echoed : Bool) → IsLawful (weights_command listed echoed)
lawful_by false echoed = sound_lawful (weights_command false echoed) (weight_vector_exact false echoed) (weight_vector_tested false echoed) (λ h. h) (λ t. t)
    (λ a m w. unweighed_not_listed (a.1 ∷ []) m w)
lawful_by true echoed = sound_lawful (weights_command true echoed) (weight_vector_exact true echoed) (weight_vector_tested true echoed) (λ h. h) (λ t. t)
    (λ a m w. unweighed_not_listed a.1 m w)

source_by : (listed echoed : Bool) → (weights_command listed echoed).reads ≡ Origin.the_input ∷ []
source_by false echoed = refl
source_by true echoed = refl

once_by : (listed echoed : Bool) → WritesOnce (weights_command listed echoed).writing
once_by false echoed = tt
once_by true echoed = tt

pub weight_lawful : (o : WeightVectorOptions) → IsLawful (weight_vector_command o)
weight_lawful o = lawful_by o.listed o.echoed

pub weight_source : (o : WeightVectorOptions) → (weight_vector_command o).reads ≡ Origin.the_input ∷ []
weight_source o = source_by o.listed o.echoed

pub weight_once : (o : WeightVectorOptions) → WritesOnce (weight_vector_command o).writing
weight_once o = once_by o.listed o.echoed
