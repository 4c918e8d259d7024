-- Any whole vector lies in the closed cone of a marked reduced basis, where the generators are homogeneous by a positive
-- grade: some multiple of the grade makes it a weight.
-- To cite: vectors_have_bases. The rest are steps.
use Rattle.std.proofs.Common.{◌≡◌, ◌⊎◌, ℕ, zero, suc, ◌+◌, ◌*◌, ◌≤◌, true, List, [], ◌∷◌, length, Contains, ℤ, pos, negsuc, ◌+ℤ◌, ◌*ℤ◌, ◌≤ℤ◌, arith, refl, sym}
use Rattle.std.proofs.Common.{ap, ◌∙◌, subst, inl, inr}
use Rattle.std.proofs.lemmas.Int.{ints}
use Rattle.std.proofs.Math.Nat.{mul-le-mul_left}
use Rattle.gf_int_theory.proofs.RingLaws.{dv, ◌⊕◌, ◌⊗◌, same as equal_numbers}
use Rattle.gf_exponents_theory.specs.Exponents.{Exponents, same, weight, whole_weight, IsInRing}
use Rattle.gf_exponents_theory.specs.Orders.{IsWeightedBelow}
use Rattle.gf_exponents_theory.proofs.ExponentsLaws.{same_by_entries}
use Rattle.gf_exponents_theory.proofs.WeightLaws.{weight-nil, weight-same}
use Rattle.gf_poly.specs.Polynomial.{Terms}
use Rattle.gf_poly.specs.Marking.{MarkedPolynomial}
use Rattle.gf_ideal_theory.specs.Membership.{HasMonomial, AreInVariables}
use Rattle.gf_ideal_theory.specs.Marks.{AreMarked, IsPositive}
use Rattle.gf_ideal_theory.specs.LawsOfBases.{AreHomogeneous}
use Rattle.gf_ideal_theory.proofs.MembershipLaws.{variables_of_member}
use Rattle.gf_ideal_theory.proofs.PieceLaws.{Contains-polys}
use Rattle.gf_ideal_theory.proofs.MarkWeights.{mark-there}
use Rattle.gf_facets_theory.specs.MarkedBases.{IsMarkedReducedBasis}
use Rattle.gf_facets_theory.specs.Facets.{IsInClosedCone}
use Rattle.gf_bases_theory.proofs.ExistenceLaws.{weighted_exists}
use Rattle.gf_bases_theory.proofs.GradedBasisLaws.{reduced-homogeneous}

-- a whole number that isn't negative, as a natural number
natural : ℤ → ℕ
natural (pos k) = k
natural (negsuc k) = 0

natural-is : (z : ℤ) → pos 0 ≤ℤ z → pos (natural z) ≡ z
unfolding natural
natural-is (pos k) h = refl
natural-is (negsuc k) h = absurd (omega (arith, ints, h))

-- the vector and m times the grade
shifted : ℕ → List ℤ → List ℕ → List ℕ
shifted m [] g = []
shifted m (z ∷ v) [] = []
shifted m (z ∷ v) (a ∷ g) = natural (z +ℤ pos (m * a)) ∷ shifted m v g

-- m times the grade outweighs the vector
Outweighs : ℕ → List ℤ → List ℕ → Type 0
Outweighs m [] g = Unit {0}
Outweighs m (z ∷ v) [] = ⊥
Outweighs m (z ∷ v) (a ∷ g) = (pos 0 ≤ℤ (z +ℤ pos (m * a))) × Outweighs m v g

spread : (z m a k u w : ℤ) → (z +ℤ m *ℤ a) *ℤ k +ℤ (u +ℤ m *ℤ w) ≡ (z *ℤ k +ℤ u) +ℤ m *ℤ (a *ℤ k +ℤ w)
spread z m a k u w = equal_numbers ((dv z ⊕ dv m ⊗ dv a) ⊗ dv k ⊕ (dv u ⊕ dv m ⊗ dv w)) ((dv z ⊗ dv k ⊕ dv u) ⊕ dv m ⊗ (dv a ⊗ dv k ⊕ dv w)) (omega arith)

none : (g : List ℕ) (x : Exponents) → IsInRing 0 x → weight g x ≡ 0
none g x h = weight-same g x [] (same_by_entries x [] (λ i. h i (omega arith))) ∙ weight-nil g

weight-shifted : (m : ℕ) (v : List ℤ) (g : List ℕ) (x : Exponents) → Outweighs m v g → IsInRing (length v) x →
    pos (weight (shifted m v g) x) ≡ whole_weight v x +ℤ pos m *ℤ pos (weight g x)
unfolding shifted Outweighs
weight-shifted m [] g x o h = sym (ap (λ k. pos 0 +ℤ pos m *ℤ pos k) (none g x h) ∙ omega (arith, ints))
weight-shifted m (z ∷ v) [] x o h = elim o [ ]
weight-shifted m (z ∷ v) (a ∷ g) [] o h = omega (arith, ints)
weight-shifted m (z ∷ v) (a ∷ g) (k ∷ x) o h =
    let r : pos (weight (shifted m v g) x) ≡ whole_weight v x +ℤ pos m *ℤ pos (weight g x) = weight-shifted m v g x o.1 (λ i l. h (suc i) (omega (arith, l))) in
    let q : pos (natural (z +ℤ pos (m * a))) ≡ z +ℤ pos (m * a) = natural-is (z +ℤ pos (m * a)) o.0 in
    ap (λ y. y *ℤ pos k +ℤ pos (weight (shifted m v g) x)) q ∙ ap (λ y. (z +ℤ pos (m * a)) *ℤ pos k +ℤ y) r ∙ spread z (pos m) (pos a) (pos k)
    (whole_weight v x) (pos (weight g x))

-- some multiple outweighs the vector
outweighing : (n : ℕ) (v : List ℤ) (g : List ℕ) → length v ≡ n → IsPositive n g →
    (m : ℕ) × ((l : ℕ) → m ≤ l → Outweighs l v g)
unfolding Outweighs
outweighing n [] g e p = (0, λ l h. tt)
outweighing zero (z ∷ v) g e p = absurd (omega (arith, e))
outweighing (suc n) (z ∷ v) [] e p = absurd (omega (arith, p 0 (omega arith)))
outweighing (suc n) (z ∷ v) (a ∷ g) e p = at (outweighing n v g (omega (arith, e)) (λ i l. p (suc i) (omega (arith, l)))) (one z)
  where
    one : (z : ℤ) → (k : ℕ) × (pos 0 ≤ℤ (z +ℤ pos k))
    one (pos b) = (0, omega (arith, ints))
    one (negsuc b) = (suc b, omega (arith, ints))

    at : ((m : ℕ) × ((l : ℕ) → m ≤ l → Outweighs l v g)) → ((k : ℕ) × (pos 0 ≤ℤ (z +ℤ pos k))) →
        (m : ℕ) × ((l : ℕ) → m ≤ l → Outweighs l (z ∷ v) (a ∷ g))
    at r k = (r.0 + k.0, λ l h. (enough l h, r.1 l (omega (arith, h))))
      where
        enough : (l : ℕ) → r.0 + k.0 ≤ l → pos 0 ≤ℤ (z +ℤ pos (l * a))
        enough l h =
            let b : l * 1 ≤ l * a = mul-le-mul_left l (p 0 (omega arith)) in
            let c : pos 0 ≤ℤ (z +ℤ pos k.0) = k.1 in
            omega (arith, ints, h, b)

-- any vector of n entries lies in the closed cone of a marked reduced basis
pub vectors_have_bases : (n : ℕ) (grade : List ℕ) (fs : List Terms) (v : List ℤ) → AreInVariables n fs → IsPositive n grade →
    AreHomogeneous n grade fs → length v ≡ n →
    (bs : List MarkedPolynomial) × IsMarkedReducedBasis n fs bs × IsInClosedCone v bs
vectors_have_bases n grade fs v vars p hom e = at (outweighing n v grade e p)
  where
    at : ((m : ℕ) × ((l : ℕ) → m ≤ l → Outweighs l v grade)) →
        (bs : List MarkedPolynomial) × IsMarkedReducedBasis n fs bs × IsInClosedCone v bs
    at m = with_basis (weighted_exists n fs (shifted m.0 v grade) vars)
      where
        with_basis : ((bs : List MarkedPolynomial) × IsMarkedReducedBasis n fs bs × AreMarked (IsWeightedBelow (shifted m.0 v grade)) bs) →
            (bs : List MarkedPolynomial) × IsMarkedReducedBasis n fs bs × IsInClosedCone v bs
        with_basis b = (b.0, b.1, λ c h x k. cone c h x k ((b.2 c h).tail x k))
          where
            there : (c : MarkedPolynomial) → Contains b.0 c → HasMonomial c.poly c.head
            there c h = mark-there (IsWeightedBelow (shifted m.0 v grade)) c (b.2 c h)

            at_most : (c : MarkedPolynomial) (x : Exponents) →
                (same x c.head ≡ true) ⊎ IsWeightedBelow (shifted m.0 v grade) x c.head →
                weight (shifted m.0 v grade) x ≤ weight (shifted m.0 v grade) c.head
            at_most c x (inl s) = omega (arith, weight-same (shifted m.0 v grade) x c.head s)
            at_most c x (inr (inl l)) = omega (arith, l)
            at_most c x (inr (inr q)) = omega (arith, q.0)

            value : (c : MarkedPolynomial) → Contains b.0 c → (x : Exponents) → HasMonomial c.poly x →
                pos (weight (shifted m.0 v grade) x) ≡ whole_weight v x +ℤ pos m.0 *ℤ pos (weight grade x)
            value c h x k = weight-shifted m.0 v grade x (m.1 m.0 (omega arith))
                (subst (λ (j : ℕ). IsInRing j x) (sym e) (variables_of_member n fs c.poly vars (b.1.reduced.basis.members c h) x k))

            cone : (c : MarkedPolynomial) → Contains b.0 c → (x : Exponents) → HasMonomial c.poly x →
                (same x c.head ≡ true) ⊎ IsWeightedBelow (shifted m.0 v grade) x c.head →
                whole_weight v x ≤ℤ whole_weight v c.head
            cone c h x k t =
                let g : weight grade x ≡ weight grade c.head =
                (reduced-homogeneous n grade fs b.0 vars hom b.1 c.poly (Contains-polys b.0 c h) x c.head k (there c h)).0 in
                let q : pos m.0 *ℤ pos (weight grade x) ≡ pos m.0 *ℤ pos (weight grade c.head) = ap (λ y. pos m.0 *ℤ pos y) g in
                let l = at_most c x t in
                let a = value c h x k in
                let d = value c h c.head (there c h) in
                omega (arith, ints, l, a, d, q)
