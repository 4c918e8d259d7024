-- The entries of a kept order's weight, and what it compares first.
use Rattle.std.proofs.Common.{◌≡◌, ℕ, List, length, ℤ, pos, ◌-ℤ◌, arith, sym, ap, subst, ◌∙◌}
use Rattle.std.proofs.lemmas.Int.{ints}
use Rattle.gf_exponents_theory.specs.Exponents.{Exponents, weight, whole_weight}
use Rattle.gf_exponents_theory.specs.Orders.{gains, losses}
use Rattle.gf_exponents_theory.specs.SixOrders.{MonomialOrder}
use Rattle.gf_exponents_theory.proofs.WholeWeightLaws.{weight_split, natural-weight, length-gains, length-losses}
use Rattle.gf_order.specs.declared.order.Kind.{Kind}
use Rattle.gf_order.specs.declared.order.Kind.TheVariants.{Weighted, WeightedRevlex, Facet}
use Rattle.gf_order.specs.Comparisons.{HasEntries, level_of}
use Rattle.gf_order.specs.Kinds.{order_of, IsKind}

kept : (n : ℕ) (k l : Kind) (o : MonomialOrder) → order_of k ≡ o → k ≡ l → HasEntries n o → HasEntries n (order_of l)
kept n k l o v e h = subst (λ (j : Kind). HasEntries n (order_of j)) e (subst (HasEntries n) (sym v) h)

pub weighted-entries : (n : ℕ) (k : Kind) (o : MonomialOrder) (w : List ℤ) → order_of k ≡ o → k ≡ Weighted w → HasEntries n o → length w ≡ n
weighted-entries n k o w v e h = sym (length-gains w) ∙ kept n k (Weighted w) o v e h

pub weighted_revlex-entries : (n : ℕ) (k : Kind) (o : MonomialOrder) (w : List ℤ) → order_of k ≡ o → k ≡ WeightedRevlex w → HasEntries n o → length w ≡ n
weighted_revlex-entries n k o w v e h = sym (length-gains w) ∙ kept n k (WeightedRevlex w) o v e h

pub facet-entries : (n : ℕ) (k : Kind) (o : MonomialOrder) (w : List ℤ) → order_of k ≡ o → k ≡ Facet w → HasEntries n o → length w ≡ n
facet-entries n k o w v e h = sym (length-losses w) ∙ kept n k (Facet w) o v e h

-- ---- levels

pub weighted-level : (k : Kind) (o : MonomialOrder) (w v : List ℤ) (x : Exponents) → order_of k ≡ o → k ≡ Weighted w → IsKind k → v ≡ w →
    whole_weight v x ≡ level_of o x
weighted-level k o w v x e q h s = ap (λ (u : List ℤ). whole_weight u x) s ∙ sym (natural-weight w x (subst IsKind q h).1) ∙
    ap (λ (p : MonomialOrder). level_of p x) (sym (ap order_of q) ∙ e)

pub weighted_revlex-level : (k : Kind) (o : MonomialOrder) (w v : List ℤ) (x : Exponents) → order_of k ≡ o → k ≡ WeightedRevlex w → IsKind k → v ≡ w →
    whole_weight v x ≡ level_of o x
weighted_revlex-level k o w v x e q h s = ap (λ (u : List ℤ). whole_weight u x) s ∙ sym (natural-weight w x (subst IsKind q h).1) ∙
    ap (λ (p : MonomialOrder). level_of p x) (sym (ap order_of q) ∙ e)

pub facet-level : (k : Kind) (o : MonomialOrder) (w v : List ℤ) (x : Exponents) → order_of k ≡ o → k ≡ Facet w → v ≡ w →
    pos 0 -ℤ whole_weight v x ≡ level_of o x
facet-level k o w v x e q s = ap (λ (u : List ℤ). pos 0 -ℤ whole_weight u x) s ∙ turned ∙ ap (λ (p : MonomialOrder). level_of p x) (sym (ap order_of q) ∙ e)
  where
    turned : pos 0 -ℤ whole_weight w x ≡ pos (weight (losses w) x) -ℤ pos (weight (gains w) x)
    turned = omega (arith, ints, weight_split w x)
