-- The weight of an order that is lex, or a weight before lex.
-- To cite: lex_weight, weighted_weight, lex_remains.
use Rattle.std.proofs.Common.{◌≡◌, ℕ, zero, suc, true, List, [], ◌∷◌, replicate, All, ℤ, pos, ◌≤ℤ◌, arith, refl, sym, ◌∙◌, subst, inl, inr}
use Rattle.std.proofs.lemmas.Int.{ints}
use Rattle.std.proofs.lemmas.List.{length-replicate}
use Rattle.std.proofs.lemmas.List.Elements.{All-replicate}
use Rattle.gf_exponents_theory.specs.Exponents.{Exponents, weight}
use Rattle.gf_exponents_theory.specs.Orders.{gains}
use Rattle.gf_exponents_theory.specs.SixOrders.{MonomialOrder}
use Rattle.gf_exponents_theory.proofs.WholeWeightLaws.{length-gains}
use Rattle.gf_order.specs.Comparisons.{HasEntries, is_weight_before_lex}
use Rattle.gf_groebner_walk.specs.Weights.{IsWeightBeforeLex}

weight-zeros : (n : ℕ) (x : Exponents) → weight (gains (replicate n (pos 0))) x ≡ 0
weight-zeros zero x = refl
weight-zeros (suc n) [] = refl
weight-zeros (suc n) (a ∷ x) = omega (arith, weight-zeros n x)

-- lex compares by zeros, and then by lex
pub lex_weight : (n : ℕ) (o : MonomialOrder) (r : List ℤ) → o ≡ MonomialOrder.lex → r ≡ replicate n (pos 0) → IsWeightBeforeLex o n r
lex_weight n o r e q = subst (λ (z : MonomialOrder). IsWeightBeforeLex z n r) (sym e) (subst (IsWeightBeforeLex MonomialOrder.lex n) (sym q) (record {
  width = length-replicate n (pos 0);
  natural = All-replicate (λ c. pos 0 ≤ℤ c) n (pos 0) (omega (arith, ints));
  compares = λ x y. (
    λ l. inr (weight-zeros n x ∙ sym (weight-zeros n y), l),
    λ h. elim h [
      | inl l ↦ absurd (omega (arith, l, weight-zeros n x, weight-zeros n y))
      | inr l ↦ l.1
    ],
  );
}))

-- a weight before lex compares by that weight, and then by lex
pub weighted_weight : (n : ℕ) (o : MonomialOrder) (w r : List ℤ) → o ≡ MonomialOrder.weighted (gains w) → HasEntries n o → All (λ c. pos 0 ≤ℤ c) w → r ≡ w →
    IsWeightBeforeLex o n r
weighted_weight n o w r e h p q = subst (λ (z : MonomialOrder). IsWeightBeforeLex z n r) (sym e) (subst (IsWeightBeforeLex (MonomialOrder.weighted (gains w)) n)
    (sym q) (record {
      width = sym (length-gains w) ∙ subst (HasEntries n) e h;
      natural = p;
      compares = λ x y. (λ l. l, λ l. l);
    }))

-- which is lex where it has no weight
pub lex_remains : (o : MonomialOrder) → is_weight_before_lex o ≡ true → ((w : List ℕ) → o ≡ MonomialOrder.weighted w → ⊥) → o ≡ MonomialOrder.lex
lex_remains MonomialOrder.lex e n = refl
lex_remains MonomialOrder.deglex e n = absurd (cc)
lex_remains MonomialOrder.revlex e n = absurd (cc)
lex_remains (MonomialOrder.weighted w) e n = absurd (n w refl)
lex_remains (MonomialOrder.weighted_revlex w) e n = absurd (cc)
lex_remains (MonomialOrder.facet r) e n = absurd (cc)
