-- Sets that steps by division leave, and what stands at the end.
-- To cite: bounded_more, longer, rows_more, difference_bounded, bounded_range, order_entries, order_suited, divided_more, divided_all, to_divide,
-- way_same, way_chosen, at_start, skipped, stepped, finished, graded_saturation. The rest are steps.
use Rattle.std.specs.Prelude.{All, ℤ, pos, ◌-ℤ◌, ◌≤ℤ◌, unsigned_abs, ◌^◌}
use Rattle.std.proofs.Common.{◌≡◌, ◌⊎◌, ℕ, ◌+◌, ◌<◌, ◌≤◌, true, List, [], ◌∷◌}
use Rattle.std.proofs.Common.{◌++◌, Contains, length, length-append, take, get_or, arith, refl, sym, ap, ◌∙◌, subst, inl, inr}
use Rattle.std.proofs.lemmas.Bool.{cases_lt}
use Rattle.std.proofs.lemmas.Int.{ints}
use Rattle.std.proofs.lemmas.List.{take_more, take_all}
use Rattle.std.proofs.lemmas.List.Elements.{All-push, All-weaker}
use Rattle.gf_int_theory.specs.Range.{InRange}
use Rattle.gf_frac.specs.Fraction.{one_ℚ}
use Rattle.gf_exponents_theory.specs.Exponents.{Exponents, entry, same, plus, minus, IsInRing}
use Rattle.gf_exponents_theory.specs.Orders.{gains, IsWeightedRevlexBelow}
use Rattle.gf_exponents_theory.specs.SixOrders.{MonomialOrder}
use Rattle.gf_exponents_theory.proofs.ExponentsLaws.{same_by_entries, entry-plus, entry-minus}
use Rattle.gf_exponents_theory.proofs.OrderLaws.{weighted_revlex-order}
use Rattle.gf_exponents_theory.proofs.WholeWeightLaws.{length-gains, positive-gains}
use Rattle.gf_int_theory.proofs.ListLaws.{Contains-here}
use Rattle.gf_poly.specs.Monomial.{IsMonomial}
use Rattle.gf_poly.specs.Polynomial.{Terms, HasVariables, coefficient, times}
use Rattle.gf_poly.specs.Marking.{MarkedPolynomial, MarkedPolynomials}
use Rattle.gf_order.specs.Weights.{AreBounded}
use Rattle.gf_order.specs.Comparisons.{HasEntries}
use Rattle.gf_gordan.specs.Alternative.{AreRows}
use Rattle.gf_ideal_theory.specs.Marks.{IsPositive}
use Rattle.gf_ideal_theory.specs.MonomialOrders.{IsHomogeneous}
use Rattle.gf_ideal_theory.specs.Bases.{IsBasis}
use Rattle.gf_ideal_theory.proofs.Identities.{one_not_zero}
use Rattle.gf_ideal_theory.proofs.ListLaws.{Contains-there, Contains-cases}
use Rattle.gf_ideal_theory.proofs.RingLaws.{in_ring_of}
use Rattle.gf_ideal_theory.proofs.BasisLaws.{basis_of_groebner_for}
use Rattle.gf_ideal_theory.proofs.LawsHold.{marks_have_weights}
use Rattle.gf_ideal_theory.proofs.MembershipLaws.{variables_of_member}
use Rattle.gf_buchberger.specs.Tasks.{HaveRingVariables, IsSuited}
use Rattle.gf_buchberger.specs.Bases.{IsArrangedBasis}
use Rattle.gf_buchberger.proofs.TaskLaws.{ring_variables, orders_that_suit}
use Rattle.gf_saturation_theory.specs.Saturations.{product_power, next_variable}
use Rattle.gf_saturation_theory.proofs.SubstitutionLaws.{entry-product_power, ring-product_power, next-here, next-below, ring-next}
use Rattle.gf_saturation_theory.proofs.SaturationLaws.{saturated_same}
use Rattle.gf_quotients_theory.specs.Quotients.{AreStripped}
use Rattle.gf_quotients_theory.specs.Quotients as quotients
use Rattle.gf_quotients_theory.specs.Ways.{IsOnTheWay}
use Rattle.gf_quotients_theory.proofs.LawsHold.{ways_are_kept, steps_saturate}
use Rattle.gf_saturate.specs.Graded.{IsChoice, IsByWeights, IsWeightedBasis, AreToDivide}
use Rattle.gf_saturate.specs.Graded.{IsDividedMember, AreDividedMembers, IsDividedStep, GenerateSaturation}
use Rattle.gf_saturate.specs.Saturating.{IsSaturation}
use Rattle.gf_saturate.proofs.StageLaws.{degree_members, degree_reduced}

-- ---- lists of entries

pub bounded_more : (xs ys : List ℤ) (x : ℤ) → ys ≡ xs ++ x ∷ [] → unsigned_abs x ≤ 2 ^ 63 → AreBounded xs → AreBounded ys
bounded_more xs ys x e b h = subst AreBounded (sym e) (All-push (λ w. unsigned_abs w ≤ 2 ^ 63) xs x h b)

pub longer : (xs ys : List ℤ) (x : ℤ) (i : ℕ) → ys ≡ xs ++ x ∷ [] → length xs ≡ i → length ys ≡ i + 1
longer xs ys x i e l = omega (arith, ap length e, length-append xs (x ∷ []), l)

pub rows_more : (n : ℕ) (rows more : List (List ℤ)) (row : List ℤ) → more ≡ rows ++ row ∷ [] → length row ≡ n → AreRows n rows → AreRows n more
rows_more n rows more row e l h = subst (AreRows n) (sym e) (All-push (λ t. length t ≡ n) rows row h l)

in_range : (w : ℤ) → unsigned_abs w ≤ 2 ^ 63 → InRange w
in_range w h = record { within = omega (arith, h) }

pub bounded_range : (ws : List ℤ) → AreBounded ws → All InRange ws
bounded_range ws h = All-weaker (λ w. unsigned_abs w ≤ 2 ^ 63) InRange in_range ws h

small_difference : (a b : ℕ) (z : ℤ) → a < 2 ^ 31 → b < 2 ^ 31 → z ≡ pos a -ℤ pos b → unsigned_abs z ≤ 2 ^ 63
small_difference a b z l m e = omega (arith, ints, l, m, e)

pub difference_bounded : (x y left right : Exponents) (i : ℕ) (z : ℤ) → left ≡ x → right ≡ y → IsMonomial x → IsMonomial y → i < length left →
    i < length right → z ≡ pos (get_or left i 0) -ℤ pos (get_or right i 0) → unsigned_abs z ≤ 2 ^ 63
difference_bounded x y left right i z ex ey mx my l m e =
    small_difference (get_or left i 0) (get_or right i 0) z (subst (All (λ k. k < 2 ^ 31)) (sym ex) mx.limit i 0 l)
    (subst (All (λ k. k < 2 ^ 31)) (sym ey) my.limit i 0 m) e

-- ---- an order by positive weights

pub order_entries : (n : ℕ) (o : MonomialOrder) → IsByWeights n o → HasEntries n o
order_entries n o h = subst (HasEntries n) (sym h.is) (length-gains h.weights ∙ h.long)

pub order_suited : (n : ℕ) (o : MonomialOrder) (fs : List Terms) → HaveRingVariables n fs → IsByWeights n o → IsSuited o n fs
order_suited n o fs v h =
    subst (λ (p : MonomialOrder). IsSuited p n fs) (sym h.is)
    (orders_that_suit.weighted_revlex n h.weights fs v h.positive (length-gains h.weights ∙ h.long))

positive_weights : (n : ℕ) (ws : List ℤ) → length ws ≡ n → All (λ w. pos 1 ≤ℤ w) ws → IsPositive n (gains ws)
positive_weights n ws e p i m = positive-gains ws p i (subst (λ j. i < j) (sym e) m)

-- ---- members divided, one after another

divided_last : (n k : ℕ) (bs : List MarkedPolynomial) (hs : List Terms) (b : MarkedPolynomial) (h : Terms) → AreDividedMembers n k bs hs →
    IsDividedMember n k b h → AreDividedMembers n k (bs ++ b ∷ []) (hs ++ h ∷ [])
divided_last n k [] [] b h d e = (e, tt)
divided_last n k [] (g ∷ hs) b h d e = absurd d
divided_last n k (c ∷ bs) [] b h d e = absurd d
divided_last n k (c ∷ bs) (g ∷ hs) b h d e = (d.0, divided_last n k bs hs b h d.1 e)

pub divided_more : (n k : ℕ) (bs : List MarkedPolynomial) (i : ℕ) (b : MarkedPolynomial) (hs : List Terms) (h : Terms) → i < length bs → b ≡ get_or bs i b →
    AreDividedMembers n k (take i bs) hs → IsDividedMember n k b h → AreDividedMembers n k (take (i + 1) bs) (hs ++ h ∷ [])
divided_more n k bs i b hs h l e d m =
    subst (λ (cs : List MarkedPolynomial). AreDividedMembers n k cs (hs ++ h ∷ [])) (ap (λ (c : MarkedPolynomial). take i bs ++ c ∷ []) e
    ∙ sym (take_more bs i b l))
    (divided_last n k (take i bs) hs b h d m)

pub divided_all : (n k : ℕ) (bs : List MarkedPolynomial) (i : ℕ) (hs : List Terms) → length bs ≤ i → AreDividedMembers n k (take i bs) hs →
    AreDividedMembers n k bs hs
divided_all n k bs i hs l d = subst (λ (cs : List MarkedPolynomial). AreDividedMembers n k cs hs) (take_all i bs l) d

of_member : (n k : ℕ) (b : MarkedPolynomial) (h : Terms) → IsDividedMember n k b h → quotients.IsStripped n k b h
of_member n k b h d = record {
  by = d.factors.by;
  ring = in_ring_of n d.factors.by d.stripped.long;
  poly = λ e. ap (λ z. coefficient z e) (sym d.stripped.equal) ∙ ap (λ z. coefficient (times one_ℚ d.factors.by z) e) (sym d.is);
  enough = d.enough;
}

stripped_each : (n k : ℕ) (bs : List MarkedPolynomial) (hs : List Terms) → AreDividedMembers n k bs hs → (b : MarkedPolynomial) → Contains bs b →
    (h : Terms) × Contains hs h × quotients.IsStripped n k b h
stripped_each n k [] hs d b c = absurd (omega (arith, c.1))
stripped_each n k (a ∷ bs) [] d b c = absurd d
stripped_each n k (a ∷ bs) (g ∷ hs) d b c = at (Contains-cases a b bs c) (λ m. stripped_each n k bs hs d.1 b m)
  where
    at : (a ≡ b) ⊎ Contains bs b → (Contains bs b → (h : Terms) × Contains hs h × quotients.IsStripped n k b h) →
        (h : Terms) × Contains (g ∷ hs) h × quotients.IsStripped n k b h
    at (inl e) r = (g, Contains-here g hs, subst (λ (z : MarkedPolynomial). quotients.IsStripped n k z g) e (of_member n k a g d.0))
    at (inr m) r = let q = r m in (q.0, Contains-there g q.0 hs q.1, q.2)

stripped_only : (n k : ℕ) (bs : List MarkedPolynomial) (hs : List Terms) → AreDividedMembers n k bs hs → (h : Terms) → Contains hs h →
    (b : MarkedPolynomial) × Contains bs b × quotients.IsStripped n k b h
stripped_only n k bs [] d h c = absurd (omega (arith, c.1))
stripped_only n k [] (g ∷ hs) d h c = absurd d
stripped_only n k (a ∷ bs) (g ∷ hs) d h c = at (Contains-cases g h hs c) (λ m. stripped_only n k bs hs d.1 h m)
  where
    at : (g ≡ h) ⊎ Contains hs h → (Contains hs h → (b : MarkedPolynomial) × Contains bs b × quotients.IsStripped n k b h) →
        (b : MarkedPolynomial) × Contains (a ∷ bs) b × quotients.IsStripped n k b h
    at (inl e) r = (a, Contains-here a bs, subst (quotients.IsStripped n k a) e (of_member n k a g d.0))
    at (inr m) r = let q = r m in (q.0, Contains-there a q.0 bs q.1, q.2)

are_stripped : (n k : ℕ) (bs : List MarkedPolynomial) (hs : List Terms) → AreDividedMembers n k bs hs → AreStripped n k bs hs
are_stripped n k bs hs d = record { each = stripped_each n k bs hs d; only = stripped_only n k bs hs d }

divided_variables : (n k : ℕ) (bs : List MarkedPolynomial) (hs : List Terms) → AreDividedMembers n k bs hs → (h : Terms) → Contains hs h → HasVariables n h
divided_variables n k bs [] d h c = absurd (omega (arith, c.1))
divided_variables n k [] (g ∷ hs) d h c = absurd d
divided_variables n k (a ∷ bs) (g ∷ hs) d h c = at (Contains-cases g h hs c) (λ m. divided_variables n k bs hs d.1 h m)
  where
    at : (g ≡ h) ⊎ Contains hs h → (Contains hs h → HasVariables n h) → HasVariables n h
    at (inl e) r = subst (HasVariables n) (sym d.0.is ∙ e) d.0.stripped.variables
    at (inr m) r = r m

step_ring : (n k : ℕ) (gs hs : List Terms) → IsDividedStep n k gs hs → HaveRingVariables n hs
step_ring n k gs hs s = record { each = λ h c. divided_variables n k s.basis.items hs s.divided h c }

-- ---- the members of a basis may be divided

has_terms : (f : Terms) (x : Exponents) → coefficient f x ≡ one_ℚ → 0 < length f
has_terms [] x e = absurd (one_not_zero (sym e))
has_terms (t ∷ f) x e = omega arith

pub to_divide : (n : ℕ) (gs : List Terms) (s : MarkedPolynomials) → IsWeightedBasis n gs s → AreToDivide n s.items
to_divide n gs s b c m =
    let canonical = b.basis.arranged.canonical c m in
    (has_terms c.poly c.head (b.basis.marked c m).monic, canonical.variables, canonical.head)

-- ---- the basis of a step

basis_by_weights : (n : ℕ) (ws : List ℤ) (gs : List Terms) (s : MarkedPolynomials) → IsPositive n (gains ws) → HaveRingVariables n gs →
    IsArrangedBasis (MonomialOrder.weighted_revlex (gains ws)) n gs s → IsBasis n gs s.items
basis_by_weights n ws gs s p v b =
    basis_of_groebner_for n gs s.items (IsWeightedRevlexBelow (gains ws)) (weighted_revlex-order (gains ws))
    (marks_have_weights.by_order (MonomialOrder.weighted_revlex (gains ws)) n [] s.items p b.marked ungraded) b.reduced.basis
  where
    past : (x : Exponents) → IsInRing n x → (i : ℕ) → n ≤ i → entry x i ≡ 0
    past x h i l = h i l

    ungraded : (c : MarkedPolynomial) → Contains s.items c → IsHomogeneous n [] c.poly
    ungraded c m x y hx hy =
        let w = variables_of_member n gs c.poly (ring_variables n gs v) (b.inside c m) in
        (refl, λ i l. past x (w x hx) i l ∙ sym (past y (w y hy) i l))

pub step_basis : (n : ℕ) (gs : List Terms) (s : MarkedPolynomials) → HaveRingVariables n gs → IsWeightedBasis n gs s → IsBasis n gs s.items
step_basis n gs s v b =
    basis_by_weights n b.weighted.weights gs s (positive_weights n b.weighted.weights b.weighted.long b.weighted.positive) v
    (subst (λ (o : MonomialOrder). IsArrangedBasis o n gs s) b.weighted.is b.basis)

-- ---- what is left after the first variables

-- v without the first k variables
abbrev pub cut : ℕ → Exponents → Exponents
cut k v = minus v (product_power k 1)

cut-below : (k i : ℕ) (v : Exponents) → i < k → entry v i ≤ 1 → entry (cut k v) i ≡ 0
cut-below k i v l o = omega (arith, entry-minus v (product_power k 1) i, entry-product_power k 1 i l, o)

cut-from : (k i : ℕ) (v : Exponents) → k ≤ i → entry (cut k v) i ≡ entry v i
cut-from k i v l = omega (arith, entry-minus v (product_power k 1) i, ring-product_power k 1 i l)

cut_none : (v : Exponents) → same v (cut 0 v) ≡ true
cut_none v = same_by_entries v (cut 0 v) (λ i. sym (cut-from 0 i v (omega arith)))

cut_all : (n k : ℕ) (v : Exponents) → n ≤ k → length v ≡ n → ((i : ℕ) → entry v i ≤ 1) → same (cut k v) [] ≡ true
cut_all n k v q l o = same_by_entries (cut k v) [] (λ i. at i (cases_lt i k))
  where
    at : (i : ℕ) → (i < k) ⊎ (k ≤ i) → entry (cut k v) i ≡ 0
    at i (inl m) = cut-below k i v m (o i)
    at i (inr m) = cut-from k i v m ∙ in_ring_of n v l i (omega (arith, q, m))

-- at one index
cases_from : (k i : ℕ) → (i < k) ⊎ (k ≤ i) → (k < i) ⊎ (i ≤ k) → ((i < k) ⊎ (i ≡ k)) ⊎ (k < i)
cases_from k i (inl l) m = inl (inl l)
cases_from k i (inr l) (inl m) = inr m
cases_from k i (inr l) (inr m) = inl (inr (omega (arith, l, m)))

cut_next : (k : ℕ) (v : Exponents) → ((i : ℕ) → entry v i ≤ 1) → 1 ≤ entry v k → same (cut k v) (plus (cut (k + 1) v) (next_variable k)) ≡ true
cut_next k v o p = same_by_entries (cut k v) (plus (cut (k + 1) v) (next_variable k)) (λ i. at i (cases_from k i (cases_lt i k) (cases_lt k i)))
  where
    here : (i : ℕ) → i ≡ k → entry (next_variable k) i ≡ 1
    here i e = ap (entry (next_variable k)) e ∙ next-here k

    one : (i : ℕ) → i ≡ k → entry v i ≡ 1
    one i e = ap (entry v) e ∙ omega (arith, o k, p)

    at : (i : ℕ) → ((i < k) ⊎ (i ≡ k)) ⊎ (k < i) → entry (cut k v) i ≡ entry (plus (cut (k + 1) v) (next_variable k)) i
    at i (inl (inl l)) =
        omega (arith, entry-plus (cut (k + 1) v) (next_variable k) i, next-below k i l, cut-below k i v l (o i), cut-below (k + 1) i v (omega (arith, l)) (o i))
    at i (inl (inr e)) =
        omega (
          arith,
          entry-plus (cut (k + 1) v) (next_variable k) i,
          here i e,
          one i e,
          cut-from k i v (omega (arith, e)),
          cut-below (k + 1) i v
              (omega (arith, e)) (o i),
        )
    at i (inr l) =
        omega (
          arith,
          entry-plus (cut (k + 1) v) (next_variable k) i,
          ring-next k i (omega (arith, l)),
          cut-from k i v (omega (arith, l)),
          cut-from (k + 1) i
              v (omega (arith, l)),
        )

cut_skip : (k : ℕ) (v : Exponents) → ((i : ℕ) → entry v i ≤ 1) → entry v k ≡ 0 → same (cut k v) (cut (k + 1) v) ≡ true
cut_skip k v o z = same_by_entries (cut k v) (cut (k + 1) v) (λ i. at i (cases_from k i (cases_lt i k) (cases_lt k i)))
  where
    none : (i : ℕ) → i ≡ k → entry v i ≡ 0
    none i e = ap (entry v) e ∙ z

    at : (i : ℕ) → ((i < k) ⊎ (i ≡ k)) ⊎ (k < i) → entry (cut k v) i ≡ entry (cut (k + 1) v) i
    at i (inl (inl l)) = omega (arith, cut-below k i v l (o i), cut-below (k + 1) i v (omega (arith, l)) (o i))
    at i (inl (inr e)) = omega (arith, none i e, cut-from k i v (omega (arith, e)), cut-below (k + 1) i v (omega (arith, e)) (o i))
    at i (inr l) = omega (arith, cut-from k i v (omega (arith, l)), cut-from (k + 1) i v (omega (arith, l)))

cut_ring : (n k : ℕ) (v : Exponents) → length v ≡ n → IsInRing n (cut k v)
cut_ring n k v l i m = omega (arith, entry-minus v (product_power k 1) i, in_ring_of n v l i m)

-- by another list of the same exponents
pub way_same : (n : ℕ) (fs gs : List Terms) (v w : Exponents) → same v w ≡ true → IsOnTheWay n fs gs v → IsOnTheWay n fs gs w
way_same n fs gs v w e r = record { ring = r.ring; inside = r.inside; left = λ f s. saturated_same n v w gs f e (r.left f s) }

-- ---- along the loop

-- hs stand after the first k variables: it is left to saturate by v without them
pub record IsGradedIndex (n : ℕ) (fs : List Terms) (v : Exponents) (k : ℕ) (hs : List Terms) : Type 0 where
  pub ring : HaveRingVariables n hs
  pub way : IsOnTheWay n fs hs (cut k v)

-- any choice is such a way, from the polynomials themselves
pub way_chosen : (n : ℕ) (fs : List Terms) (v : Exponents) → HaveRingVariables n fs → IsChoice n fs v → IsOnTheWay n fs fs v
way_chosen n fs v r c = record {
  ring = ring_variables n fs r;
  inside = (ways_are_kept.start n fs (ring_variables n fs r)).inside;
  left = c.enough;
}

pub at_start : (n : ℕ) (fs hs : List Terms) (v : Exponents) → HaveRingVariables n fs → IsChoice n fs v → hs ≡ fs → IsGradedIndex n fs v 0 hs
at_start n fs hs v r c e =
    subst (IsGradedIndex n fs v 0) (sym e) (record { ring = r; way = way_same n fs fs v (cut 0 v) (cut_none v) (way_chosen n fs v r c) })

pub skipped : (n : ℕ) (fs hs : List Terms) (v : Exponents) (k : ℕ) → IsChoice n fs v → entry v k ≡ 0 → IsGradedIndex n fs v k hs →
    IsGradedIndex n fs v (k + 1) hs
skipped n fs hs v k c z p = record { ring = p.ring; way = way_same n fs hs (cut k v) (cut (k + 1) v) (cut_skip k v c.once z) p.way }

pub stepped : (n k : ℕ) (fs gs hs : List Terms) (v : Exponents) → k < n → HaveRingVariables n fs → IsChoice n fs v → 1 ≤ entry v k →
    IsGradedIndex n fs v k gs → IsDividedStep n k gs hs → IsGradedIndex n fs v (k + 1) hs
stepped n k fs gs hs v l r c o p s = record {
  ring = step_ring n k gs hs s;
  way = steps_saturate n k fs gs hs s.basis.items (cut (k + 1) v) l (cut_ring n (k + 1) v c.long) (ring_variables n fs r)
      (way_same n fs gs (cut k v) (plus (cut (k + 1) v) (next_variable k)) (cut_next k v c.once o) p.way)
      (step_basis n gs s.basis p.ring s.weighted) (are_stripped n k s.basis.items hs s.divided);
}

pub finished : (n k : ℕ) (fs hs : List Terms) (v : Exponents) → n ≤ k → IsChoice n fs v → IsGradedIndex n fs v k hs → GenerateSaturation n fs hs
finished n k fs hs v q c p = record {
  ring = p.ring;
  members = λ f. ways_are_kept.ended n fs hs f (way_same n fs hs (cut k v) [] (cut_all n k v q c.long c.once) p.way);
}

-- ---- the answer

pub graded_saturation : (n : ℕ) (fs hs : List Terms) (s : MarkedPolynomials) → GenerateSaturation n fs hs → IsArrangedBasis MonomialOrder.deglex n hs s →
    IsSaturation n fs s
graded_saturation n fs hs s g b = record {
  variables = b.variables;
  members = λ f. (λ m. (g.members f).0 ((degree_members n hs s g.ring b f).0 m), λ m. (degree_members n hs s g.ring b f).1 ((g.members f).1 m));
  reduced = degree_reduced n hs s g.ring b;
  arranged = b.arranged;
}
