-- Comparisons by one of the six orders are total, and products keep them.
use Rattle.std.specs.Ordering.{ordering_reverse}
use Rattle.std.specs.declared.cmp.Ordering.{Ordering}
use Rattle.std.specs.declared.cmp.Ordering.TheVariants.{Less, Equal, Greater}
use Rattle.std.proofs.Common.{◌≡◌, length, refl, sym, ap, inl, inr}
use Rattle.gf_exponents_theory.specs.Exponents.{Exponents, plus}
use Rattle.gf_exponents_theory.specs.SixOrders.{MonomialOrder, below_of}
use Rattle.gf_exponents_theory.proofs.ExponentsLaws.{same-refl, same_of, entries_same, same_lists}
use Rattle.gf_exponents_theory.proofs.SixOrdersLaws.{order-is}
use Rattle.gf_order.specs.Comparisons.{IsOutcome}
use Rattle.gf_order.specs.Laws.{ComparisonsAreTotal}

decided : (o : MonomialOrder) (x y : Exponents) → length x ≡ length y → (r : Ordering) × IsOutcome o x y r
decided o x y e = elim ((order-is o).total x y) [
  | inl l ↦ (Less, l)
  | inr r ↦ elim r [
    | inl s ↦ (Equal, same_lists x y e (entries_same x y s))
    | inr l ↦ (Greater, l)
  ]
]

-- no list is below itself
never : (o : MonomialOrder) (x y : Exponents) → x ≡ y → below_of o x y → ⊥
never o x y e l = (order-is o).strict.irreflexive x y (same_of x y e) l

pub not_both : (o : MonomialOrder) (x y : Exponents) → below_of o x y → below_of o y x → ⊥
not_both o x y l m = (order-is o).strict.irreflexive x x (same-refl x) ((order-is o).strict.transitive x y x l m)

unique : (o : MonomialOrder) (x y : Exponents) (r s : Ordering) → IsOutcome o x y r → IsOutcome o x y s → r ≡ s
unique o x y Less Less h k = refl
unique o x y Less Equal h k = absurd (never o x y k h)
unique o x y Less Greater h k = absurd (not_both o x y h k)
unique o x y Equal Less h k = absurd (never o x y h k)
unique o x y Equal Equal h k = refl
unique o x y Equal Greater h k = absurd (never o y x (sym h) k)
unique o x y Greater Less h k = absurd (not_both o x y k h)
unique o x y Greater Equal h k = absurd (never o y x (sym k) h)
unique o x y Greater Greater h k = refl

turned : (o : MonomialOrder) (x y : Exponents) (r : Ordering) → IsOutcome o x y r → IsOutcome o y x (ordering_reverse r)
turned o x y Less h = h
turned o x y Equal h = sym h
turned o x y Greater h = h

products : (o : MonomialOrder) (z x y : Exponents) (r : Ordering) → IsOutcome o x y r → IsOutcome o (plus z x) (plus z y) r
products o z x y Less h = (order-is o).strict.invariant z x y h
products o z x y Equal h = ap (plus z) h
products o z x y Greater h = (order-is o).strict.invariant z y x h

pub comparisons : ComparisonsAreTotal
comparisons = record {
  decided = decided;
  unique = unique;
  turned = turned;
  chained = λ o x y z h k. (order-is o).strict.transitive x y z h k;
  products = products;
}
