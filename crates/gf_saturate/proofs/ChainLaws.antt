-- Saturations by one variable after another, in an order that is found on the way.
-- To cite: split_none, split_more, split_kept, split_all, wide_basis, free_saturated, unit_saturated, chain_start, chain_taken, chain_ended, taken_none,
-- taken_one. The rest are steps.
use Rattle.std.proofs.Common.{◌≡◌, ◌⊎◌, ℕ, suc, ◌+◌, ◌<◌, ◌≤◌, ◌==◌, Bool, true, false, if◌then◌else◌, List, [], ◌∷◌, ◌++◌, Contains, length, take}
use Rattle.std.proofs.Common.{map, get_or, arith, refl, sym, ap, ◌∙◌, subst, inl, inr}
use Rattle.std.proofs.lemmas.Bool.{cases_lt}
use Rattle.std.proofs.lemmas.Bool.Decides.{nat_tests}
use Rattle.std.proofs.lemmas.List.{take_more, take_all}
use Rattle.std.proofs.lemmas.List.Elements.{Contains-append_right}
use Rattle.gf_int_theory.proofs.ListLaws.{Contains-here, Contains-last}
use Rattle.gf_exponents_theory.specs.Exponents.{Exponents, entry, plus, degree, IsInRing}
use Rattle.gf_exponents_theory.proofs.ExponentsLaws.{entries_same, same_by_entries, same_flip, eq_by, entry-plus}
use Rattle.gf_poly.specs.Polynomial.{Terms, HasVariables, coefficient, SamePolynomial}
use Rattle.gf_poly.specs.Marking.{MarkedPolynomial, MarkedPolynomials, Each}
use Rattle.gf_ideal_theory.specs.Membership.{IsInVariables, AreInVariables, IsMember, Spans}
use Rattle.gf_ideal_theory.specs.Marks.{Piece, value}
use Rattle.gf_ideal_theory.specs.Bases.{IsBasis}
use Rattle.gf_ideal_theory.proofs.ListLaws.{Each-weaker, Contains-there, Contains-cases}
use Rattle.gf_ideal_theory.proofs.ListedTerms.{variables_by_terms}
use Rattle.gf_ideal_theory.proofs.RingLaws.{ring-along, ring-left, ring-plus, in_ring_of, entry-degree}
use Rattle.gf_ideal_theory.proofs.SpanLaws.{Spans-equal, Spans-generator, Spans-trans}
use Rattle.gf_ideal_theory.proofs.MembershipLaws.{variables-equal, variables_of_member, spans_of_member, member_of_spans}
use Rattle.gf_ideal_theory.proofs.PieceLaws.{spans_value}
use Rattle.gf_ideal_theory.proofs.StepLaws.{IsClosed, IsPieceIn}
use Rattle.gf_ideal_theory.proofs.BasisLaws.{member_pieces}
use Rattle.gf_buchberger.specs.Tasks.{HaveRingVariables}
use Rattle.gf_buchberger.proofs.TaskLaws.{ring_variables}
use Rattle.gf_saturation_theory.specs.Saturations.{product_power, IsSaturatedBy, next_variable}
use Rattle.gf_saturation_theory.proofs.SubstitutionLaws.{entry-product_power, ring-product_power, ring-next}
use Rattle.gf_saturation_theory.proofs.SaturationLaws.{one_more, extended_variables, saturated_same}
use Rattle.gf_saturation_theory.proofs.LawsHold.{saturations_are_eliminations}
use Rattle.gf_quotients_theory.specs.Ways as ways
use Rattle.gf_quotients_theory.proofs.LawsHold.{ways_are_kept}
use Rattle.gf_saturate.specs.Widening.{widened_term, narrowed_term, left_over, variable_at}
use Rattle.gf_saturate.specs.Saturating.{AddsNothing, step_list}
use Rattle.gf_saturate.specs.Graded.{IsWeightedBasis, GenerateSaturation}
use Rattle.gf_saturate.specs.Chains.{AreWide, AreSplit, AreFreeMembers, AreSaturated, IsTaken, IsChainIndex}
use Rattle.gf_saturate.proofs.WideningLaws.{length-variable, same-widened, variables-narrowed}
use Rattle.gf_saturate.proofs.StepLaws.{extended, extended-ring, left_over-ring, not_equal}
use Rattle.gf_saturate.proofs.StageLaws.{variable-same, by_no_power}
use Rattle.gf_saturate.proofs.GradedLaws.{step_basis, way_same}
use Rattle.gf_saturate.proofs.ChoiceLaws.{more_enough}

-- ---- members without the last variable, one after another

pub wide_basis : (n : ℕ) (gs : List Terms) (s : MarkedPolynomials) → IsWeightedBasis (n + 1) gs s → AreWide n s.items
wide_basis n gs s w b c = let k = w.basis.arranged.canonical b c in (k.variables, k.head)

pub split_none : (n : ℕ) (bs : List MarkedPolynomial) → AreSplit n (take 0 bs)
split_none n bs b c = absurd (omega (arith, c.1))

split_last : (n : ℕ) (bs cs : List MarkedPolynomial) (b : MarkedPolynomial) → cs ≡ bs ++ b ∷ [] → AreSplit n bs →
    (entry b.head n ≡ 0 → map widened_term (map (narrowed_term n) b.poly) ≡ b.poly) → AreSplit n cs
split_last n bs cs b e h p = subst (AreSplit n) (sym e) (λ d c. at d (Contains-last bs b d c))
  where
    at : (d : MarkedPolynomial) → Contains bs d ⊎ (d ≡ b) → entry d.head n ≡ 0 → map widened_term (map (narrowed_term n) d.poly) ≡ d.poly
    at d (inl k) = h d k
    at d (inr q) = subst (λ (m : MarkedPolynomial). entry m.head n ≡ 0 → map widened_term (map (narrowed_term n) m.poly) ≡ m.poly) (sym q) p

taken_apart : (bs : List MarkedPolynomial) (i : ℕ) (b : MarkedPolynomial) → i < length bs → b ≡ get_or bs i b → take (i + 1) bs ≡ take i bs ++ b ∷ []
taken_apart bs i b l e = take_more bs i b l ∙ ap (λ (c : MarkedPolynomial). take i bs ++ c ∷ []) (sym e)

pub split_more : (n : ℕ) (bs : List MarkedPolynomial) (i : ℕ) (b : MarkedPolynomial) → i < length bs → b ≡ get_or bs i b → (entry b.head n == 0) ≡ false →
    AreSplit n (take i bs) → AreSplit n (take (i + 1) bs)
split_more n bs i b l e z h =
    split_last n (take i bs) (take (i + 1) bs) b (taken_apart bs i b l e) h (λ q. absurd (not_equal (entry b.head n) 0 z q))

pub split_kept : (n : ℕ) (bs : List MarkedPolynomial) (i : ℕ) (b : MarkedPolynomial) → i < length bs → b ≡ get_or bs i b →
    map widened_term (map (narrowed_term n) b.poly) ≡ b.poly → AreSplit n (take i bs) → AreSplit n (take (i + 1) bs)
split_kept n bs i b l e p h = split_last n (take i bs) (take (i + 1) bs) b (taken_apart bs i b l e) h (λ q. p)

pub split_all : (n : ℕ) (bs : List MarkedPolynomial) (i : ℕ) (hs : List Terms) → length bs ≤ i → hs ≡ left_over n (take i bs) → AreSplit n (take i bs) →
    AreFreeMembers n bs hs
split_all n bs i hs l e h = record {
  is = e ∙ ap (left_over n) (take_all i bs l);
  split = subst (AreSplit n) (take_all i bs l) h;
}

-- ---- which members they are

kept_there : (n : ℕ) (bs : List MarkedPolynomial) (c : MarkedPolynomial) → Contains bs c → (entry c.head n == 0) ≡ true →
    Contains (left_over n bs) (map (narrowed_term n) c.poly)
kept_there n [] c k z = absurd (omega (arith, k.1))
kept_there n (a ∷ bs) c k z = at (Contains-cases a c bs k) (λ m. kept_there n bs c m z)
  where
    g : Terms
    g = map (narrowed_term n) c.poly

    here : Contains (left_over n (c ∷ bs)) g
    here = subst (λ (b : Bool). Contains ((if b then (g ∷ []) else []) ++ left_over n bs) g) (sym z) (Contains-here g (left_over n bs))

    at : (a ≡ c) ⊎ Contains bs c → (Contains bs c → Contains (left_over n bs) g) → Contains (left_over n (a ∷ bs)) g
    at (inl e) r = subst (λ (d : MarkedPolynomial). Contains (left_over n (d ∷ bs)) g) (sym e) here
    at (inr m) r = Contains-append_right (if entry a.head n == 0 then (map (narrowed_term n) a.poly ∷ []) else []) (left_over n bs) g (r m)

kept_from : (n : ℕ) (bs : List MarkedPolynomial) (h : Terms) → Contains (left_over n bs) h →
    (c : MarkedPolynomial) × Contains bs c × (entry c.head n ≡ 0) × (map (narrowed_term n) c.poly ≡ h)
kept_from n [] h k = absurd (omega (arith, k.1))
kept_from n (a ∷ bs) h k = at (entry a.head n == 0) refl (λ m. kept_from n bs h m) k
  where
    Found : List MarkedPolynomial → Type 0
    Found cs = (c : MarkedPolynomial) × Contains cs c × (entry c.head n ≡ 0) × (map (narrowed_term n) c.poly ≡ h)

    later : Found bs → Found (a ∷ bs)
    later r = (r.0, Contains-there a r.0 bs r.1, r.2, r.3)

    at : (b : Bool) → (entry a.head n == 0) ≡ b → (Contains (left_over n bs) h → Found bs) →
        Contains ((if b then (map (narrowed_term n) a.poly ∷ []) else []) ++ left_over n bs) h → Found (a ∷ bs)
    at true z r m = by (Contains-cases (map (narrowed_term n) a.poly) h (left_over n bs) m)
      where
        by : (map (narrowed_term n) a.poly ≡ h) ⊎ Contains (left_over n bs) h → Found (a ∷ bs)
        by (inl e) = (a, Contains-here a bs, eq_by (entry a.head n) 0 z, e)
        by (inr i) = later (r i)
    at false z r m = later (r m)

-- ---- what they generate

-- members that have the last variable only where their marks do generate, without the others, what the ideal has without it
free_of_member : (n : ℕ) (gs hs : List Terms) (bs : List MarkedPolynomial) (f : Terms) → AreInVariables (suc n) gs → AreInVariables n hs →
    IsBasis (suc n) gs bs → ((c : MarkedPolynomial) → Contains bs c → entry c.head n ≡ 0 → IsInVariables n c.poly × Spans hs c.poly) →
    IsInVariables n f → IsMember (suc n) gs f → IsMember n hs f
free_of_member n gs hs bs f w v b free r m = at (member_pieces (suc n) gs bs (IsInRing n) f w b closed m r)
  where
    none : (x y : Exponents) → IsInRing n (plus x y) → entry y n ≡ 0
    none x y h = omega (arith, h n (omega arith), entry-plus x y n)

    closed : IsClosed (Contains bs) (IsInRing n)
    closed = record { along = ring-along n; lower = λ c k u t q h. ring-plus n u t (ring-left n u c.head h) ((free c k (none u c.head h)).0 t q) }

    Free : MarkedPolynomial → Type 0
    Free c = Contains bs c × (entry c.head n ≡ 0)

    spanned : (c : MarkedPolynomial) → Free c → Spans hs c.poly
    spanned c k = (free c k.0 k.1).1

    inside : (p : Piece) → IsPieceIn (Contains bs) (IsInRing n) p → Free p.of
    inside p k = (k.member, none p.shift p.of.head k.inside)

    at : ((ps : List Piece) × Each (IsPieceIn (Contains bs) (IsInRing n)) ps × SamePolynomial f (value ps)) → IsMember n hs f
    at p = member_of_spans n hs f v r
        (Spans-equal hs (value p.0) f (λ e. sym (p.2 e)) (spans_value hs Free spanned p.0 (Each-weaker (IsPieceIn (Contains bs) (IsInRing n))
        (λ (q : Piece). Free q.of) inside p.0 p.1)))

pub free_saturated : (n k : ℕ) (fs hs : List Terms) (s : MarkedPolynomials) → k < n → HaveRingVariables n fs → IsWeightedBasis (n + 1) (step_list n k fs) s →
    AreFreeMembers n s.items hs → AreSaturated n k fs hs
free_saturated n k fs hs s l r w a = record { ring = ring; members = λ f. (into f, back f) }
  where
    u : Exponents
    u = variable_at n k

    gs : List Terms
    gs = step_list n k fs

    long : length u ≡ n
    long = length-variable n k l

    inside : AreInVariables n fs
    inside = ring_variables n fs r

    ring : HaveRingVariables n hs
    ring = subst (HaveRingVariables n) (sym a.is) (left_over-ring n s.items (λ c m. (w.basis.arranged.canonical c m).variables))

    wide : AreInVariables (suc n) gs
    wide = extended_variables n u fs gs (in_ring_of n u long) inside (extended n u fs long)

    next : n + 1 ≡ suc n
    next = omega arith

    basis : IsBasis (suc n) gs s.items
    basis = subst (λ (j : ℕ). IsBasis j gs s.items) next (step_basis (n + 1) gs s (extended-ring n u fs long r) w)

    alike : (c : MarkedPolynomial) → Contains s.items c → entry c.head n ≡ 0 → SamePolynomial (map (narrowed_term n) c.poly) c.poly
    alike c m z e = same-widened (map (narrowed_term n) c.poly) e ∙ ap (λ g. coefficient g e) (a.split c m z)

    yes : (x : ℕ) → x ≡ 0 → (x == 0) ≡ true
    yes x e = ap (λ z. z == 0) e ∙ none
      where
        none : (0 == 0) ≡ true
        none = grind (arith, nat_tests)

    free : (c : MarkedPolynomial) → Contains s.items c → entry c.head n ≡ 0 → IsInVariables n c.poly × Spans hs c.poly
    free c m z =
        let g : Terms = map (narrowed_term n) c.poly in
        let v : HasVariables n g = variables-narrowed n c.poly (w.basis.arranged.canonical c m).variables in
        let there : Contains hs g = subst (λ (xs : List Terms). Contains xs g) (sym a.is) (kept_there n s.items c m (yes (entry c.head n) z)) in
        (variables-equal n g c.poly (alike c m z) (variables_by_terms n g v), Spans-equal hs g c.poly (alike c m z) (Spans-generator hs g there))

    spanned : (h : Terms) → Contains hs h → Spans gs h
    spanned h m =
        let t = kept_from n s.items h (subst (λ (xs : List Terms). Contains xs h) a.is m) in
        Spans-equal gs t.0.poly h (λ e. sym (alike t.0 t.1 t.2 e) ∙ ap (λ g. coefficient g e) t.3)
        (spans_of_member (n + 1) gs t.0.poly (w.basis.inside t.0 t.1))

    into : (f : Terms) → IsMember n hs f → IsSaturatedBy n fs (next_variable k) f
    into f m =
        let v : IsInVariables n f = variables_of_member n hs f (ring_variables n hs ring) m in
        saturated_same n u (next_variable k) fs f (variable-same n k l)
        (saturations_are_eliminations.from n u fs gs f (in_ring_of n u long) inside (extended n u fs long) v
        (member_of_spans (suc n) gs f wide (one_more n f v) (Spans-trans gs hs f spanned (spans_of_member n hs f m))))

    back : (f : Terms) → IsSaturatedBy n fs (next_variable k) f → IsMember n hs f
    back f t =
        let q = saturated_same n (next_variable k) u fs f (same_flip u (next_variable k) (variable-same n k l)) t in
        free_of_member n gs hs s.items f wide (ring_variables n hs ring) basis free
        (saturations_are_eliminations.variables n fs u f inside q)
        (saturations_are_eliminations.to n u fs gs f (in_ring_of n u long) inside (extended n u fs long) q)

-- ---- along the chain

-- where the variable adds nothing, the generators stay
pub unit_saturated : (n k : ℕ) (gs : List Terms) → HaveRingVariables n gs → AddsNothing n k gs → AreSaturated n k gs gs
unit_saturated n k gs r a = record { ring = r; members = λ f. (λ m. by_no_power n (next_variable k) gs f m, λ s. a f s) }

pub chain_start : (n : ℕ) (fs : List Terms) (v : Exponents) → HaveRingVariables n fs → length v ≡ n → ((k : ℕ) → k < n → entry v k ≡ 1) → IsChainIndex n fs fs v
chain_start n fs v r l o = record {
  ring = r;
  long = l;
  way = way_same n fs fs (product_power n 1) v (same_by_entries (product_power n 1) v (λ i. at i (cases_lt i n)))
      (ways_are_kept.start n fs (ring_variables n fs r));
}
  where
    at : (i : ℕ) → (i < n) ⊎ (n ≤ i) → entry (product_power n 1) i ≡ entry v i
    at i (inl m) = entry-product_power n 1 i m ∙ sym (o i m)
    at i (inr m) = ring-product_power n 1 i m ∙ sym (in_ring_of n v l i m)

pub taken_none : (k : ℕ) (v w : Exponents) → w ≡ v → IsTaken k v w
taken_none k v w e i = omega (arith, entry-plus w (next_variable k) i, ap (λ (x : Exponents). entry x i) e)

pub taken_one : (n k : ℕ) (v u w : Exponents) → k < n → u ≡ variable_at n k → plus w u ≡ v → IsTaken k v w
taken_one n k v u w l e p i =
    omega (
      arith,
      ap (λ (x : Exponents). entry x i) p,
      entry-plus w u i,
      entry-plus w (next_variable k) i,
      ap (λ (x : Exponents). entry x i) e,
      entries_same (variable_at n k) (next_variable k) (variable-same n k l) i,
    )

pub chain_taken : (n k : ℕ) (fs gs hs : List Terms) (v w : Exponents) → k < n → HaveRingVariables n fs → IsChainIndex n fs gs v → AreSaturated n k gs hs →
    length w ≡ n → IsTaken k v w → IsChainIndex n fs hs w
chain_taken n k fs gs hs v w l r p s q t = record {
  ring = s.ring;
  long = q;
  way = ways_are_kept.variable n k fs gs hs w l (in_ring_of n w q) (ring_variables n fs r) raised (ring_variables n hs s.ring) s.members;
}
  where
    more : IsInRing n (plus w (next_variable k))
    more = ring-plus n w (next_variable k) (in_ring_of n w q) (λ i g. ring-next k i (omega (arith, l, g)))

    raised : ways.IsOnTheWay n fs gs (plus w (next_variable k))
    raised = record {
      ring = p.way.ring;
      inside = p.way.inside;
      left = λ f m. more_enough n gs v (plus w (next_variable k)) (ring_variables n gs p.ring) more t f (p.way.left f m);
    }

pub chain_ended : (n : ℕ) (fs gs : List Terms) (v : Exponents) → IsChainIndex n fs gs v → degree v ≡ 0 → GenerateSaturation n fs gs
chain_ended n fs gs v p z = record {
  ring = p.ring;
  members = λ f. ways_are_kept.ended n fs gs f (way_same n fs gs v [] (same_by_entries v [] (λ i. omega (arith, entry-degree v i, z))) p.way);
}
