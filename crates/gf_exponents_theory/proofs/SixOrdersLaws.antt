-- Each of the six orders is a monomial order; which are term orders, in n variables.
-- To cite: order-is, term-order, term-weights. The rest are steps.
use Rattle.std.proofs.Common.{◌≡◌, ◌⊎◌, ℕ, zero, suc, ◌*◌, ◌<◌, ◌≤◌, true, List, [], ◌∷◌, arith, refl, sym, ap, inl, inr}
use Rattle.std.proofs.lemmas.Bool.{cases_lt}
use Rattle.gf_exponents_theory.specs.Exponents.{Exponents, entry, same, IsInRing, degree, weight}
use Rattle.std.proofs.Math.Nat.{mul-le-mul_right}
use Rattle.gf_exponents_theory.specs.Orders.{IsMonomialOrder, IsTermOrder, is_less, is_alike, IsLexBelow, IsRevlexBelow}
use Rattle.gf_exponents_theory.specs.SixOrders.{MonomialOrder, below_of, HasTermWeights}
use Rattle.gf_exponents_theory.proofs.ExponentsLaws.{entries_same, same_by_entries}
use Rattle.gf_exponents_theory.proofs.WeightLaws.{weight-nil}
use Rattle.gf_exponents_theory.proofs.OrderLaws.{lex-order, deglex-order, revlex-order, weighted-order, weighted_revlex-order, first_zero}
use Rattle.gf_exponents_theory.proofs.WholeWeightLaws.{row-order}

-- each of the six is a monomial order
pub order-is : (o : MonomialOrder) → IsMonomialOrder (below_of o)
order-is MonomialOrder.lex = lex-order
order-is MonomialOrder.deglex = deglex-order
order-is MonomialOrder.revlex = revlex-order
order-is (MonomialOrder.weighted w) = weighted-order w
order-is (MonomialOrder.weighted_revlex w) = weighted_revlex-order w
order-is (MonomialOrder.facet r) = row-order r

-- ---- the monomial of one variable

-- the monomial of variable i
abbrev pub variable : ℕ → Exponents
variable zero = 1 ∷ []
variable (suc i) = 0 ∷ variable i

pub entry-variable : (i : ℕ) → entry (variable i) i ≡ 1
entry-variable zero = refl
entry-variable (suc i) = entry-variable i

entry-other : (i j : ℕ) → i < j → entry (variable i) j ≡ 0
entry-other zero zero h = absurd (omega arith)
entry-other zero (suc j) h = refl
entry-other (suc i) zero h = absurd (omega arith)
entry-other (suc i) (suc j) h = entry-other i j (omega arith)

weight-variable : (w : List ℕ) (i : ℕ) → weight w (variable i) ≡ entry w i
weight-variable [] i = refl
weight-variable (w ∷ ws) zero = omega (arith, weight-nil ws)
weight-variable (w ∷ ws) (suc i) = omega (arith, weight-variable ws i)

-- ---- where 1 is least

-- a weight first, then lex
first_least : (size : Exponents → ℕ) (x : Exponents) → size [] ≡ 0 → (same [] x ≡ true) ⊎ (size [] < size x) ⊎ ((size [] ≡ size x) × IsLexBelow [] x)
first_least size x e = elim (cases_lt (size []) (size x)) [
  | inl l ↦ inr (inl l)
  | inr g ↦ elim (first_zero x) [
    | inl h ↦ inr (inr (omega arith, h))
    | inr s ↦ inl s
  ]
]

part_of_weight : (w : List ℕ) (x : Exponents) (i : ℕ) → entry w i * entry x i ≤ weight w x
part_of_weight [] x i = omega arith
part_of_weight (w ∷ ws) [] i = omega arith
part_of_weight (w ∷ ws) (a ∷ x) zero = omega arith
part_of_weight (w ∷ ws) (a ∷ x) (suc i) = omega (arith, part_of_weight ws x i)

nothing_weighs : (w : List ℕ) (x : Exponents) (i : ℕ) → 1 ≤ entry w i → weight w x ≡ 0 → entry x i ≡ 0
nothing_weighs w x i h e = at (entry w i) (entry x i) h (omega (arith, part_of_weight w x i))
  where
    at : (a b : ℕ) → 1 ≤ a → a * b ≤ 0 → b ≡ 0
    at a zero h k = refl
    at a (suc b) h k = absurd (omega arith)

weight_below : (v w : List ℕ) (x : Exponents) → ((i : ℕ) → (entry v i ≤ entry w i) ⊎ (entry x i ≡ 0)) → weight v x ≤ weight w x
weight_below v w [] h = omega (arith, weight-nil v)
weight_below [] w (a ∷ x) h = omega arith
weight_below (v ∷ vs) [] (a ∷ x) h = omega (arith, here (h 0), weight_below vs [] x (λ i. h (suc i)))
  where
    here : (v ≤ 0) ⊎ (a ≡ 0) → v * a ≡ 0
    here (inl l) = let e : v ≡ 0 = omega arith in omega (arith, ap (λ (z : ℕ). z * a) e)
    here (inr e) = omega (arith, ap (λ (z : ℕ). v * z) e)
weight_below (v ∷ vs) (w ∷ ws) (a ∷ x) h = omega (arith, here (h 0), weight_below vs ws x (λ i. h (suc i)))
  where
    here : (v ≤ w) ⊎ (a ≡ 0) → v * a ≤ w * a
    here (inl l) = mul-le-mul_right a l
    here (inr e) = omega (arith, ap (λ (z : ℕ). v * z) e)

-- where the weights are those of a term order, it is one
pub term-order : (n : ℕ) (o : MonomialOrder) → HasTermWeights n o → IsTermOrder n (below_of o)
term-order n MonomialOrder.lex h = record {
  order = lex-order;
  least = λ x r. elim (first_zero x) [ inl l ↦ inr l | inr s ↦ inl s ];
}
term-order n MonomialOrder.deglex h = record { order = deglex-order; least = λ x r. first_least degree x refl }
term-order n MonomialOrder.revlex h = record {
  order = revlex-order;
  least = λ x r. inl (same_by_entries [] x (λ i. sym (r i (omega arith))));
}
term-order n (MonomialOrder.weighted w) h = record {
  order = weighted-order w;
  least = λ x r. first_least (weight w) x (weight-nil w);
}
term-order n (MonomialOrder.weighted_revlex w) h = record { order = weighted_revlex-order w; least = least }
  where
    least : (x : Exponents) → IsInRing n x → (same [] x ≡ true) ⊎ (weight w [] < weight w x) ⊎ ((weight w [] ≡ weight w x) × IsRevlexBelow [] x)
    least x r = elim (cases_lt 0 (weight w x)) [
      | inl l ↦ inr (inl (omega (arith, weight-nil w)))
      | inr g ↦ inl (same_by_entries [] x (λ i. sym (elim (cases_lt i n) [ inl l ↦ nothing_weighs w x i (h i l) (omega arith) | inr m ↦ r i m ])))
    ]
term-order n (MonomialOrder.facet r) h = record { order = row-order r; least = least }
  where
    least : (x : Exponents) → IsInRing n x → (same [] x ≡ true) ⊎ is_less r [] x ⊎ (is_alike r [] x × IsLexBelow [] x)
    least x k =
        let b = weight_below r.loss r.gain x (λ i. elim (cases_lt i n) [ inl l ↦ inl (h i l) | inr m ↦ inr (k i m) ]) in
        elim (cases_lt (weight r.loss x) (weight r.gain x)) [
          | inl l ↦ inr (inl (omega (arith, weight-nil r.gain, weight-nil r.loss)))
          | inr g ↦ elim (first_zero x) [
            | inl m ↦ inr (inr (omega (arith, weight-nil r.gain, weight-nil r.loss, b), m))
            | inr s ↦ inl s
          ]
        ]

-- ---- where it isn't

one_is_no_variable : (i : ℕ) → same [] (variable i) ≡ true → ⊥
one_is_no_variable i s = absurd (omega (arith, entries_same [] (variable i) s i, entry-variable i))

ring-variable : (n i : ℕ) → i < n → IsInRing n (variable i)
ring-variable n i h j l = entry-other i j (omega arith)

-- where it is one, the weights are those of one
pub term-weights : (n : ℕ) (o : MonomialOrder) → IsTermOrder n (below_of o) → HasTermWeights n o
term-weights n MonomialOrder.lex t = tt
term-weights n MonomialOrder.deglex t = tt
term-weights zero MonomialOrder.revlex t = refl
term-weights (suc n) MonomialOrder.revlex t = elim (t.least (variable 0) (ring-variable (suc n) 0 (omega arith))) [
  | inl s ↦ absurd (one_is_no_variable 0 s)
  | inr l ↦ absurd (omega (arith, l.here))
]
term-weights n (MonomialOrder.weighted w) t = tt
term-weights n (MonomialOrder.weighted_revlex w) t = λ i h. at i (t.least (variable i) (ring-variable n i h))
  where
    at : (i : ℕ) → (same [] (variable i) ≡ true) ⊎ (weight w [] < weight w (variable i)) ⊎ ((weight w [] ≡ weight w (variable i)) ×
        IsRevlexBelow [] (variable i)) → 1 ≤ entry w i
    at i (inl s) = absurd (one_is_no_variable i s)
    at i (inr (inl l)) = omega (arith, weight-variable w i)
    at i (inr (inr l)) = absurd (omega (arith, l.1.here))
term-weights n (MonomialOrder.facet r) t = λ i h. at i (t.least (variable i) (ring-variable n i h))
  where
    at : (i : ℕ) → (same [] (variable i) ≡ true) ⊎ is_less r [] (variable i) ⊎ (is_alike r [] (variable i) × IsLexBelow [] (variable i)) →
        entry r.loss i ≤ entry r.gain i
    at i (inl s) = absurd (one_is_no_variable i s)
    at i (inr (inl l)) = omega (arith, l, weight-nil r.gain, weight-nil r.loss, weight-variable r.gain i, weight-variable r.loss i)
    at i (inr (inr l)) = omega (arith, l.0, weight-nil r.gain, weight-nil r.loss, weight-variable r.gain i, weight-variable r.loss i)
