-- Monomials whole multiples of a vector apart are classes. So where each generator lies in one class, the reduced basis for
-- the order along a facet is marked by what is further along.
-- To cite: apart_or_not, multiple-grading, further-below, further_marks, below-further, facet_marks.
use Rattle.std.proofs.Common.{◌≡◌, ◌⊎◌, ℕ, zero, suc, ◌+◌, ◌*◌, ◌<◌, ◌≤◌, Bool, true, false, List, [], ◌∷◌, get_or, Contains, ℤ, pos, negsuc, neg_ℤ, ◌+ℤ◌, ◌*ℤ◌}
use Rattle.std.proofs.Common.{◌<ℤ◌, unsigned_abs, arith, refl, sym, ap, ◌∙◌, inl, inr}
use Rattle.std.proofs.lemmas.Bool.{cases_lt}
use Rattle.std.proofs.Math.IntN.{*ℤ-zero}
use Rattle.std.proofs.lemmas.Int.{ints}
use Rattle.gf_int_theory.proofs.RingLaws.{dv, dn, dneg, ◌⊕◌, ◌⊗◌, same as same_number}
use Rattle.gf_int_theory.proofs.SignLaws.{0<-*ℤ}
use Rattle.gf_exponents_theory.specs.Exponents.{Exponents, entry, same, whole_weight}
use Rattle.gf_exponents_theory.specs.Orders.{negated_row_of, IsMonomialOrder, IsFacetBelow}
use Rattle.gf_exponents_theory.proofs.ExponentsLaws.{entry-plus, entries_same, same_by_entries}
use Rattle.gf_exponents_theory.proofs.WholeWeightLaws.{negated-less, negated-alike, row-order}
use Rattle.gf_poly.specs.Polynomial.{Terms, SamePolynomial}
use Rattle.gf_poly.specs.Marking.{MarkedPolynomial}
use Rattle.gf_vec.specs.Vector.{dot}
use Rattle.gf_ideal_theory.specs.Membership.{AreInVariables, IsMember}
use Rattle.gf_ideal_theory.specs.Marks.{AreMarked}
use Rattle.gf_ideal_theory.specs.Reduction.{IsIrreducible}
use Rattle.gf_ideal_theory.specs.OrderTable.{AreMultipleApart}
use Rattle.gf_ideal_theory.specs.Bases.{IsGroebnerBasisFor, IsReducedBasisFor}
use Rattle.gf_ideal_theory.proofs.RingLaws.{rest, entry-rest}
use Rattle.gf_ideal_theory.proofs.OrderWeights.{IsGrading}
use Rattle.gf_ideal_theory.proofs.LeadingLaws.{top_greatest}
use Rattle.gf_facets_theory.specs.Beyond.{IsFurther}
use Rattle.gf_facets_theory.proofs.VectorLaws.{three, IsNonzero}
use Rattle.gf_facets_theory.proofs.WholeLaws.{weight-apart}
use Rattle.gf_bases_theory.proofs.GradedBasisLaws.{IsOfOneClass, basis-graded}
use Rattle.gf_facets_theory.proofs.RegionLaws.{dot-itself}

-- ---- which monomials are multiples apart

-- the exponents of x are those of y and k times a
abbrev pub IsApartBy : List ℤ → Exponents → Exponents → ℤ → Type 0
IsApartBy a x y k = (i : ℕ) → pos (entry x i) ≡ pos (entry y i) +ℤ k *ℤ get_or a i (pos 0)

apart_by : (a : List ℤ) (x y : Exponents) (k : ℤ) → IsApartBy a x y k ⊎ (IsApartBy a x y k → ⊥)
apart_by [] x y k = same_test (same x y) refl
  where
    same_test : (b : Bool) → same x y ≡ b → IsApartBy [] x y k ⊎ (IsApartBy [] x y k → ⊥)
    same_test true s = inl (λ i. ap pos (entries_same x y s i) ∙ nothing (pos (entry y i)) k)
      where
        nothing : (y k : ℤ) → y ≡ y +ℤ k *ℤ pos 0
        nothing y k = same_number (dv y) (dv y ⊕ dv k ⊗ dn 0) (omega arith)
    same_test false s = inr (λ h. let t : same x y ≡ true = same_by_entries x y (λ i. omega (arith, ints, h i, *ℤ-zero k)) in absurd (cc))
apart_by (b ∷ a) x y k = at (three (pos (entry x 0)) (pos (entry y 0) +ℤ k *ℤ b)) (apart_by a (rest x) (rest y) k)
  where
    first : (i : ℕ) → IsApartBy (b ∷ a) x y k → IsApartBy a (rest x) (rest y) k
    first j h i = ap pos (entry-rest x i) ∙ h (suc i) ∙ ap (λ z. pos z +ℤ k *ℤ get_or a i (pos 0)) (sym (entry-rest y i))

    both : pos (entry x 0) ≡ pos (entry y 0) +ℤ k *ℤ b → IsApartBy a (rest x) (rest y) k → IsApartBy (b ∷ a) x y k
    both e h zero = e
    both e h (suc i) = ap pos (sym (entry-rest x i)) ∙ h i ∙ ap (λ z. pos z +ℤ k *ℤ get_or a i (pos 0)) (entry-rest y i)

    at : (pos (entry x 0) <ℤ (pos (entry y 0) +ℤ k *ℤ b)) ⊎ ((pos (entry x 0) ≡ pos (entry y 0) +ℤ k *ℤ b) ⊎ ((pos (entry y 0) +ℤ k *ℤ b) <ℤ pos (entry x 0))) →
        IsApartBy a (rest x) (rest y) k ⊎ (IsApartBy a (rest x) (rest y) k → ⊥) →
        IsApartBy (b ∷ a) x y k ⊎ (IsApartBy (b ∷ a) x y k → ⊥)
    at (inl l) r = inr (λ h. absurd (omega (arith, ints, l, h 0)))
    at (inr (inr l)) r = inr (λ h. absurd (omega (arith, ints, l, h 0)))
    at (inr (inl e)) (inl h) = inl (both e h)
    at (inr (inl e)) (inr n) = inr (λ h. n (first 0 h))

-- by a multiple of at most m either way, or by none of them
search_apart : (a : List ℤ) (x y : Exponents) (m : ℕ) → AreMultipleApart a x y ⊎ ((k : ℤ) → unsigned_abs k ≤ m → IsApartBy a x y k → ⊥)
search_apart a x y zero = elim (apart_by a x y (pos 0)) [ inl h ↦ inl (pos 0, h) | inr n ↦ inr (λ k l h. only k l h n) ]
  where
    only : (k : ℤ) → unsigned_abs k ≤ 0 → IsApartBy a x y k → (IsApartBy a x y (pos 0) → ⊥) → ⊥
    only (pos zero) l h n = n h
    only (pos (suc k)) l h n = absurd (omega arith)
    only (negsuc k) l h n = absurd (omega arith)
search_apart a x y (suc m) = at (search_apart a x y m) (apart_by a x y (pos (suc m))) (apart_by a x y (negsuc m))
  where
    at : AreMultipleApart a x y ⊎ ((k : ℤ) → unsigned_abs k ≤ m → IsApartBy a x y k → ⊥) →
        IsApartBy a x y (pos (suc m)) ⊎ (IsApartBy a x y (pos (suc m)) → ⊥) →
        IsApartBy a x y (negsuc m) ⊎ (IsApartBy a x y (negsuc m) → ⊥) →
        AreMultipleApart a x y ⊎ ((k : ℤ) → unsigned_abs k ≤ suc m → IsApartBy a x y k → ⊥)
    at (inl r) p q = inl r
    at (inr r) (inl p) q = inl (pos (suc m), p)
    at (inr r) (inr p) (inl q) = inl (negsuc m, q)
    at (inr r) (inr p) (inr q) = inr (λ k l h. all k l h (cases_lt (unsigned_abs k) (suc m)))
      where
        last : (k : ℤ) → unsigned_abs k ≡ suc m → IsApartBy a x y k → ⊥
        last (pos k) e h = p (λ i. h i ∙ ap (λ z. pos (entry y i) +ℤ pos z *ℤ get_or a i (pos 0)) e)
        last (negsuc k) e h = let f : k ≡ m = omega arith in q (λ i. h i ∙ ap (λ z. pos (entry y i) +ℤ negsuc z *ℤ get_or a i (pos 0)) f)

        all : (k : ℤ) → unsigned_abs k ≤ suc m → IsApartBy a x y k → (unsigned_abs k < suc m) ⊎ (suc m ≤ unsigned_abs k) → ⊥
        all k l h (inl s) = r k (omega arith) h
        all k l h (inr s) = last k (omega arith) h

-- k times what isn't zero is at least k
at_least : (k z : ℤ) → (z ≡ pos 0 → ⊥) → unsigned_abs k ≤ unsigned_abs (k *ℤ z)
at_least k z n = size k z (nonzero z n)
  where
    nonzero : (z : ℤ) → (z ≡ pos 0 → ⊥) → 1 ≤ unsigned_abs z
    nonzero (pos zero) n = absurd (n refl)
    nonzero (pos (suc z)) n = omega arith
    nonzero (negsuc z) n = omega arith

    more : (k z : ℕ) → 1 ≤ z → k ≤ k * z
    more k z l = grind arith

    size : (k z : ℤ) → 1 ≤ unsigned_abs z → unsigned_abs k ≤ unsigned_abs (k *ℤ z)
    size (pos k) (pos z) l = omega (arith, ints, more k z l)
    size (pos k) (negsuc z) l = omega (arith, ints, more k (suc z) l)
    size (negsuc k) (pos z) l = omega (arith, ints, more (suc k) z l)
    size (negsuc k) (negsuc z) l = omega (arith, ints, more (suc k) (suc z) l)

-- whether two monomials are a multiple of a apart is decided
pub apart_or_not : (a : List ℤ) → IsNonzero a → (x y : Exponents) → AreMultipleApart a x y ⊎ (AreMultipleApart a x y → ⊥)
apart_or_not a n x y = elim (search_apart a x y (entry x n.0 + entry y n.0)) [
  | inl h ↦ inl h
  | inr r ↦ inr (λ h. r h.0 (near h.0 (h.1 n.0)) h.1)
]
  where
    near : (k : ℤ) → pos (entry x n.0) ≡ pos (entry y n.0) +ℤ k *ℤ get_or a n.0 (pos 0) →
        unsigned_abs k ≤ entry x n.0 + entry y n.0
    near k e = let l = at_least k (get_or a n.0 (pos 0)) n.1 in omega (arith, ints, l, e)

turned : (x y k z : ℤ) → x ≡ y +ℤ k *ℤ z → y ≡ x +ℤ neg_ℤ k *ℤ z
turned x y k z e = same_number (dv y) (dv y ⊕ dv k ⊗ dv z ⊕ dneg (dv k) ⊗ dv z) (omega arith) ∙ ap (λ t. t +ℤ neg_ℤ k *ℤ z) (sym e)

chained : (x y w k j z : ℤ) → x ≡ y +ℤ k *ℤ z → y ≡ w +ℤ j *ℤ z → x ≡ w +ℤ (k +ℤ j) *ℤ z
chained x y w k j z p q = p ∙ ap (λ t. t +ℤ k *ℤ z) q ∙ same_number (dv w ⊕ dv j ⊗ dv z ⊕ dv k ⊗ dv z) (dv w ⊕ (dv k ⊕ dv j) ⊗ dv z) (omega arith)

still : (y z : ℤ) → y ≡ y +ℤ pos 0 *ℤ z
still y z = same_number (dv y) (dv y ⊕ dn 0 ⊗ dv z) (omega arith)

-- monomials a multiple of a apart are classes
pub multiple-grading : (a : List ℤ) → IsNonzero a → IsGrading (AreMultipleApart a)
multiple-grading a n = record {
  decide = apart_or_not a n;
  along = λ x y s. (pos 0, λ i. ap pos (entries_same x y s i) ∙ still (pos (entry y i)) (get_or a i (pos 0)));
  symmetric = λ x y h. (neg_ℤ h.0, λ i. turned (pos (entry x i)) (pos (entry y i)) h.0 (get_or a i (pos 0)) (h.1 i));
  transitive = λ x y z h k. (h.0 +ℤ k.0, λ i. chained (pos (entry x i)) (pos (entry y i)) (pos (entry z i)) h.0 k.0 (get_or a i (pos 0)) (h.1 i) (k.1 i));
  invariant = λ z x y h. (h.0, λ i. omega (arith, ints, h.1 i, entry-plus z x i, entry-plus z y i));
}

-- ---- what the order along a facet marks

-- what is further along is below by the order
pub further-below : (a : List ℤ) (x y : Exponents) → IsNonzero a → IsFurther a x y → IsFacetBelow (negated_row_of a) x y
further-below a x y n f =
    let w = weight-apart a a x y (pos f.0) f.2 in
    let t : pos 0 <ℤ (pos f.0 *ℤ dot a a) = 0<-*ℤ (pos f.0) (dot a a) (omega (arith, ints, f.1)) (dot-itself a n) in
    inl ((negated-less a x y).1 (omega (arith, ints, w, t)))

-- so are marks by it
pub further_marks : (a : List ℤ) (bs : List MarkedPolynomial) → IsNonzero a → AreMarked (IsFurther a) bs →
    AreMarked (IsFacetBelow (negated_row_of a)) bs
further_marks a bs n m b c = record {
  monic = (m b c).monic;
  tail = λ x k. elim ((m b c).tail x k) [ inl s ↦ inl s | inr f ↦ inr (further-below a x b.head n f) ];
}

-- below by the order, and a multiple apart: further along
below-further : (a : List ℤ) (x y : Exponents) → IsNonzero a → AreMultipleApart a x y →
    IsFacetBelow (negated_row_of a) x y → (same x y ≡ true) ⊎ IsFurther a x y
below-further a x y n (pos zero, h) l = inl (same_by_entries x y (λ i. omega (arith, ints, h i, still (pos (entry y i)) (get_or a i (pos 0)))))
below-further a x y n (pos (suc k), h) l = inr (suc k, omega arith, h)
below-further a x y n (negsuc k, h) l = absurd (low l)
  where
    w : whole_weight a x ≡ whole_weight a y +ℤ negsuc k *ℤ dot a a
    w = weight-apart a a x y (negsuc k) h

    t : pos 0 <ℤ (pos (suc k) *ℤ dot a a)
    t = 0<-*ℤ (pos (suc k)) (dot a a) (omega (arith, ints)) (dot-itself a n)

    s : (d : ℤ) → negsuc k *ℤ d ≡ neg_ℤ (pos (suc k) *ℤ d)
    s d = same_number (dneg (dn (suc k)) ⊗ dv d) (dneg (dn (suc k) ⊗ dv d)) (omega arith)

    low : IsFacetBelow (negated_row_of a) x y → ⊥
    low (inl p) = absurd (omega (arith, ints, (negated-less a x y).0 p, w, t, s (dot a a)))
    low (inr p) = absurd (omega (arith, ints, (negated-alike a x y).0 p.0, w, t, s (dot a a)))

-- an irreducible member of an ideal with a Gröbner basis for an order is zero
pub order-decides : (n : ℕ) (fs : List Terms) (below : Exponents → Exponents → Type 0) (bs : List MarkedPolynomial) (f : Terms) →
    IsMonomialOrder below → IsGroebnerBasisFor n fs below bs → IsMember n fs f → IsIrreducible (Contains bs) f →
    SamePolynomial f []
order-decides n fs below bs f o b m i = elim ((top_greatest below o).some f) [ inl z ↦ z | inr x ↦ absurd (i x.0 x.1.there (b.initial f m x.0 x.1)) ]

-- the reduced basis for the order, of an ideal whose generators lie in one class each, is marked by what is further along
pub facet_marks : (n : ℕ) (fs : List Terms) (a : List ℤ) (hs : List MarkedPolynomial) → IsNonzero a → AreInVariables n fs →
    ((f : Terms) → Contains fs f → IsOfOneClass (AreMultipleApart a) f) →
    IsReducedBasisFor n fs (IsFacetBelow (negated_row_of a)) hs → AreMarked (IsFurther a) hs
facet_marks n fs a hs nz v one r h c = record {
  monic = (r.basis.marked h c).monic;
  tail = λ x k. elim ((r.basis.marked h c).tail x k) [
    | inl s ↦ inl s
    | inr l ↦ below-further a x h.head nz (basis-graded n fs (AreMultipleApart a) hs h (multiple-grading a nz) v one r.basis.members
        (λ f m i. order-decides n fs (IsFacetBelow (negated_row_of a)) hs f (row-order (negated_row_of a)) r.basis m i) r.tails c x k) l
  ];
}
