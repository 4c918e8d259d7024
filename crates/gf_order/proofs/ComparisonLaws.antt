-- What a comparison answers: one further entry, a tie that is broken, a weight that decides.
use Rattle.std.specs.Ordering.{MatchOrdering, nat_cmp}
use Rattle.std.specs.declared.cmp.Ordering.{Ordering}
use Rattle.std.specs.declared.cmp.Ordering.TheVariants.{Less, Equal, Greater}
use Rattle.std.proofs.Common.{◌≡◌, ◌⊎◌, ℕ, ◌-◌, ◌<◌, ◌≤◌, List, get_or, All, ℤ, pos, ◌<ℤ◌, ◌≤ℤ◌, arith, sym, inl, inr, subst}
use Rattle.std.proofs.lemmas.Bool.{cases_lt}
use Rattle.std.proofs.lemmas.Cmp.{ranked}
use Rattle.std.proofs.lemmas.Int.{ints}
use Rattle.gf_exponents_theory.specs.Exponents.{Exponents, entry, weight, whole_weight}
use Rattle.gf_exponents_theory.specs.Orders.{gains, negated_row_of}
use Rattle.gf_exponents_theory.specs.SixOrders.{MonomialOrder}
use Rattle.gf_exponents_theory.proofs.ExponentsLaws.{entry-get_or}
use Rattle.gf_exponents_theory.proofs.WholeWeightLaws.{natural-weight, negated-less, negated-alike}
use Rattle.gf_order.specs.Comparisons.{IsOutcome, BreaksTie}
use Rattle.gf_order.specs.Weights.{CompareSo}

-- ---- revlex, entry by entry from the last one

pub revlex_at : (x y : Exponents) (i : ℕ) (o : Ordering) → 0 < i → ((j : ℕ) → i ≤ j → entry x j ≡ entry y j) → ¬ (get_or x (i - 1) 0 ≡ get_or y (i - 1) 0) →
    o ≡ nat_cmp (get_or y (i - 1) 0) (get_or x (i - 1) 0) → IsOutcome MonomialOrder.revlex x y o
revlex_at x y i o h e n c = at o (ranked (get_or y (i - 1) 0) (get_or x (i - 1) 0) o c)
  where
    at : (o : Ordering) → MatchOrdering o (get_or y (i - 1) 0 < get_or x (i - 1) 0) (get_or y (i - 1) 0 ≡ get_or x (i - 1) 0) (get_or x (i - 1) 0 < get_or y
        (i - 1) 0) → IsOutcome MonomialOrder.revlex x y o
    at Less r = record { at = i - 1; after = λ j l. e j (omega arith); here = omega (arith, entry-get_or x (i - 1), entry-get_or y (i - 1)) }
    at Equal r = absurd (n (sym r))
    at Greater r = record { at = i - 1; after = λ j l. sym (e j (omega arith)); here = omega (arith, entry-get_or x (i - 1), entry-get_or y (i - 1)) }

pub same_before : (x y : Exponents) (i : ℕ) → 0 < i → ((j : ℕ) → i ≤ j → entry x j ≡ entry y j) → get_or x (i - 1) 0 ≡ get_or y (i - 1) 0 → (j : ℕ) →
    i - 1 ≤ j → entry x j ≡ entry y j
same_before x y i h e s j l = elim (cases_lt (i - 1) j) [
  | inl m ↦ e j (omega arith)
  | inr m ↦ let k : i - 1 ≡ j = omega arith in subst (λ (z : ℕ). entry x z ≡ entry y z) k (omega (arith, entry-get_or x (i - 1), entry-get_or y (i - 1)))
]

-- ---- a first comparison, and an order where it is a tie

broken : (first r : Ordering) (C E D A F B H L X G : Type 0) → (C → A) → (E → F) → (E → H) → (D → B) → MatchOrdering first C E D →
    MatchOrdering first (r ≡ Less) (MatchOrdering r L X G) (r ≡ Greater) → MatchOrdering r (A ⊎ (F × L)) X (B ⊎ (H × G))
broken Less r C E D A F B H L X G f e g d h t = subst (λ (o : Ordering). MatchOrdering o (A ⊎ (F × L)) X (B ⊎ (H × G))) (sym t) (inl (f h))
broken Equal r C E D A F B H L X G f e g d h t = at r t
  where
    at : (r : Ordering) → MatchOrdering r L X G → MatchOrdering r (A ⊎ (F × L)) X (B ⊎ (H × G))
    at Less t = inr (e h, t)
    at Equal t = t
    at Greater t = inr (g h, t)
broken Greater r C E D A F B H L X G f e g d h t = subst (λ (o : Ordering). MatchOrdering o (A ⊎ (F × L)) X (B ⊎ (H × G))) (sym t) (inl (d h))

natural_less : (w : List ℤ) (x y : Exponents) → All (λ k. pos 0 ≤ℤ k) w → whole_weight w x <ℤ whole_weight w y → weight (gains w) x < weight (gains w) y
natural_less w x y n h = omega (arith, ints, natural-weight w x n, natural-weight w y n, h)

natural_same : (w : List ℤ) (x y : Exponents) → All (λ k. pos 0 ≤ℤ k) w → whole_weight w x ≡ whole_weight w y → weight (gains w) x ≡ weight (gains w) y
natural_same w x y n h = omega (arith, ints, natural-weight w x n, natural-weight w y n, h)

pub weighted_outcome : (w : List ℤ) (x y : Exponents) (first r : Ordering) → All (λ k. pos 0 ≤ℤ k) w → CompareSo w x y first →
    BreaksTie MonomialOrder.lex x y first r → IsOutcome (MonomialOrder.weighted (gains w)) x y r
weighted_outcome w x y first r n h t = broken first r _ _ _ _ _ _ _ _ _ _ (natural_less w x y n) (natural_same w x y n) (λ e. natural_same w y x n (sym e))
    (natural_less w y x n) h t

pub weighted_revlex_outcome : (w : List ℤ) (x y : Exponents) (first r : Ordering) → All (λ k. pos 0 ≤ℤ k) w → CompareSo w x y first →
    BreaksTie MonomialOrder.revlex x y first r → IsOutcome (MonomialOrder.weighted_revlex (gains w)) x y r
weighted_revlex_outcome w x y first r n h t = broken first r _ _ _ _ _ _ _ _ _ _ (natural_less w x y n) (natural_same w x y n)
    (λ e. natural_same w y x n (sym e)) (natural_less w y x n) h t

pub facet_outcome : (a : List ℤ) (x y : Exponents) (first r : Ordering) → CompareSo a y x first → BreaksTie MonomialOrder.lex x y first r →
    IsOutcome (MonomialOrder.facet (negated_row_of a)) x y r
facet_outcome a x y first r h t = broken first r _ _ _ _ _ _ _ _ _ _ (negated-less a x y).1 (λ e. (negated-alike a x y).1 (sym e)) (negated-alike a y x).1
    (negated-less a y x).1 h t
