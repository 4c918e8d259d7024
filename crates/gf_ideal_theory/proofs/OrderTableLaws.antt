-- The six orders row by row, traded for a weight.
-- To cite: multiple-weight (monomials a multiple of a apart weigh alike), order_table, multiples_are_homogeneous.
use Rattle.std.specs.List.{AllByRecursion}
use Rattle.std.proofs.Common.{◌≡◌, ℕ, zero, suc, ◌*◌, ◌≤◌, true, List, [], ◌∷◌, get_or, All, ℤ, pos, negsuc, ◌+ℤ◌, ◌*ℤ◌, ◌≤ℤ◌, arith, refl, sym, ap, ◌∙◌, inl}
use Rattle.std.proofs.Common.{inr}
use Rattle.std.proofs.lemmas.Int.{ints}
use Rattle.std.proofs.lemmas.List.Elements.{recursion_from_All}
use Rattle.gf_int_theory.proofs.RingLaws.{dv, dn, ◌⊕◌, ◌⊗◌, same as same_number}
use Rattle.gf_exponents_theory.specs.Exponents.{Exponents, entry, same, degree, weight, whole_weight}
use Rattle.gf_exponents_theory.specs.Orders.{gains, negated_row_of}
use Rattle.gf_exponents_theory.proofs.ExponentsLaws.{same_by_entries}
use Rattle.gf_exponents_theory.proofs.WeightLaws.{weight-same}
use Rattle.gf_ideal_theory.specs.MonomialOrders.{MonomialOrder, below_of, IsOfGrade, IsAdmissible, HasNoLoss}
use Rattle.gf_ideal_theory.specs.OrderTable.{AreInRing, AreMultipleApart, IsTraded, OrderTable, MultiplesAreHomogeneous}
use Rattle.gf_ideal_theory.proofs.ListLaws.{Each-weaker}
use Rattle.gf_ideal_theory.proofs.RingLaws.{rest, entry-rest}
use Rattle.gf_ideal_theory.proofs.OrderWeights.{order-weights, ones, entry-ones, degree-ones, weight-parts}
use Rattle.gf_ideal_theory.proofs.MarkWeights.{list_traded}

-- ---- monomials a multiple apart

-- one variable
scaled : (w x y : ℕ) (k a : ℤ) → pos x ≡ pos y +ℤ k *ℤ a → pos (w * x) ≡ pos (w * y) +ℤ k *ℤ (a *ℤ pos w)
scaled w x y k a h = ap (λ z. pos w *ℤ z) h ∙ same_number (dn w ⊗ (dn y ⊕ dv k ⊗ dv a)) (dn w ⊗ dn y ⊕ dv k ⊗ (dv a ⊗ dn w)) (omega arith)

both : (k a b : ℤ) → k *ℤ a +ℤ k *ℤ b ≡ k *ℤ (a +ℤ b)
both k a b = same_number (dv k ⊗ dv a ⊕ dv k ⊗ dv b) (dv k ⊗ (dv a ⊕ dv b)) (omega arith)

nothing_times : (k : ℤ) → k *ℤ pos 0 ≡ pos 0
nothing_times k = same_number (dv k ⊗ dn 0) (dn 0) (omega arith)

-- what k times a adds to the weight
multiple-weight_by : (v : List ℕ) (a : List ℤ) (x y : Exponents) (k : ℤ) →
    ((i : ℕ) → pos (entry x i) ≡ pos (entry y i) +ℤ k *ℤ get_or a i (pos 0)) →
    pos (weight v x) ≡ pos (weight v y) +ℤ k *ℤ whole_weight a v
unfolding rest
multiple-weight_by v [] x y k h =
    let s : same x y ≡ true = same_by_entries x y (λ i. omega (arith, ints, h i, nothing_times k)) in
    omega (arith, ints, weight-same v x y s, nothing_times k)
multiple-weight_by [] (b ∷ a) x y k h = omega (arith, ints, nothing_times k)
multiple-weight_by (w ∷ v) (b ∷ a) x y k h =
    let r = multiple-weight_by v a (rest x) (rest y) k (λ i. omega (arith, ints, h (suc i), entry-rest x i, entry-rest y i)) in
    omega (arith, ints, weight-parts (w ∷ v) x, weight-parts (w ∷ v) y, scaled w (entry x 0) (entry y 0) k b (h 0), r, both k (b *ℤ pos w) (whole_weight a v))

-- monomials a multiple of a apart weigh alike, by a weight that is orthogonal to a
pub multiple-weight : (v : List ℕ) (a : List ℤ) (x y : Exponents) → whole_weight a v ≡ pos 0 → AreMultipleApart a x y →
    weight v x ≡ weight v y
multiple-weight v a x y e m =
    omega (arith, ints, multiple-weight_by v a x y m.0 m.1, ap (λ z. m.0 *ℤ z) e, nothing_times m.0)

-- ---- the rows

agree : (n : ℕ) (x y : Exponents) → AreInRing n x y → (i : ℕ) → n ≤ i → entry x i ≡ entry y i
agree n x y h i l = h.0 i l ∙ sym (h.1 i l)

ungraded : (n : ℕ) (x y : Exponents) → AreInRing n x y → IsOfGrade n [] x y
ungraded n x y h = (refl, agree n x y h)

of_multiples : (n : ℕ) (v : List ℕ) (a : List ℤ) (x y : Exponents) → whole_weight a v ≡ pos 0 → AreInRing n x y →
    AreMultipleApart a x y → IsOfGrade n v x y
of_multiples n v a x y e h m = (multiple-weight v a x y e m, agree n x y h)

of_degree : (n : ℕ) (x y : Exponents) → AreInRing n x y → degree x ≡ degree y → IsOfGrade n (ones n) x y
of_degree n x y h e = (degree-ones n x h.0 ∙ e ∙ sym (degree-ones n y h.1), agree n x y h)

-- a normal without positive entry takes nothing away
nothing_lost : (a : List ℤ) → All (λ k. k ≤ℤ pos 0) a → HasNoLoss (negated_row_of a)
nothing_lost a h i = at a (recursion_from_All (λ k. k ≤ℤ pos 0) a h) i
  where
    at : (a : List ℤ) → AllByRecursion (λ k. k ≤ℤ pos 0) a → (i : ℕ) → entry (gains a) i ≡ 0
    at [] h i = refl
    at (pos k ∷ a) h zero = omega (arith, ints, h.0)
    at (negsuc k ∷ a) h zero = refl
    at (pos k ∷ a) h (suc i) = at a h.1 i
    at (negsuc k ∷ a) h (suc i) = at a h.1 i

-- an order is traded wherever related monomials are of the grade that it wants
traded : (o : MonomialOrder) (n : ℕ) (grade : List ℕ) (related : Exponents → Exponents → Type 0) →
    IsAdmissible o n grade → ((x y : Exponents) → related x y → IsOfGrade n grade x y) → IsTraded n related (below_of o)
traded o n grade related a g ps r b =
    list_traded (IsOfGrade n grade) (below_of o) n ps (order-weights o n grade a)
    (Each-weaker (λ (p : Exponents × Exponents). related p.0 p.1) (λ (p : Exponents × Exponents). IsOfGrade n grade p.0 p.1) (λ p k. g p.0 p.1 k) ps r) b

pub order_table : OrderTable
order_table = record {
  lex = λ n. traded MonomialOrder.lex n [] (AreInRing n) tt (ungraded n);
  deglex = λ n. traded MonomialOrder.deglex n [] (AreInRing n) tt (ungraded n);
  weighted = λ n u. traded (MonomialOrder.weighted u) n [] (AreInRing n) tt (ungraded n);
  weighted_revlex = λ n u p. traded (MonomialOrder.weighted_revlex u) n [] (AreInRing n) p (ungraded n);
  revlex = λ n. traded MonomialOrder.revlex n (ones n) (λ x y. AreInRing n x y × (degree x ≡ degree y)) (λ i l. omega (arith, entry-ones n i l))
      (λ x y h. of_degree n x y h.0 h.1);
  facet = λ n a v p e. traded (MonomialOrder.facet (negated_row_of a)) n v (λ x y. AreInRing n x y × AreMultipleApart a x y) (inl p)
      (λ x y h. of_multiples n v a x y e h.0 h.1);
  facet_downward = λ n a d. traded (MonomialOrder.facet (negated_row_of a)) n [] (AreInRing n) (inr (nothing_lost a d)) (ungraded n);
}

pub multiples_are_homogeneous : MultiplesAreHomogeneous
multiples_are_homogeneous n a v f e r h x y p q = of_multiples n v a x y e (r x p, r y q) (h x y p q)
