-- Whole weights of monomials that are products, or a multiple of a vector apart; strict comparisons by whole weights.
-- To cite: weight-product, weight-sum, weight-multiple, weight-apart, further-weight, IsTilted,
-- tilted-strict, tilted-order, no_multiple, further-strict, beyond-strict.
use Rattle.std.proofs.Common.{◌≡◌, ◌⊎◌, ℕ, suc, ◌+◌, ◌≤◌, true, List, [], ◌∷◌, get_or, ℤ, pos, ◌+ℤ◌, ◌*ℤ◌, ◌<ℤ◌, length, arith, refl, sym, ap, ◌∙◌, inl, inr}
use Rattle.std.proofs.Math.IntN.{*ℤ-zero}
use Rattle.std.proofs.lemmas.Int.{ints}
use Rattle.gf_int_theory.proofs.RingLaws.{dv, dn, ◌⊕◌, ◌⊗◌, same as same_number, *ℤ-+ℤ}
use Rattle.gf_int_theory.proofs.SignLaws.{zero_of_*ℤ}
use Rattle.gf_exponents_theory.specs.Exponents.{Exponents, entry, same, plus, whole_weight}
use Rattle.gf_exponents_theory.specs.Orders.{gains, losses, IsStrict, IsMonomialOrder, IsWeightedBelow}
use Rattle.gf_exponents_theory.proofs.ExponentsLaws.{entry-plus, entries_same, same_by_entries}
use Rattle.gf_exponents_theory.proofs.WeightLaws.{weight-plus}
use Rattle.gf_exponents_theory.proofs.WholeWeightLaws.{weight_split, whole_weight-same}
use Rattle.gf_exponents_theory.proofs.OrderLaws.{weighted-order}
use Rattle.gf_ideal_theory.proofs.RingLaws.{rest, entry-rest}
use Rattle.gf_int_theory.specs.Content.{scaled}
use Rattle.gf_vec.specs.Vector.{dot, vector_sum}
use Rattle.gf_facets_theory.specs.Beyond.{IsFurther, IsBeyond}
use Rattle.gf_facets_theory.proofs.VectorLaws.{three, IsNonzero}
use Rattle.gf_vec.proofs.VectorLaws.{times_step}

-- the weight of a product
pub weight-product : (w : List ℤ) (x y : Exponents) → whole_weight w (plus x y) ≡ whole_weight w x +ℤ whole_weight w y
weight-product w x y = omega (arith, ints, weight_split w (plus x y), weight_split w x, weight_split w y, weight-plus (gains w) x y, weight-plus (losses w) x y)

-- ---- weights that are sums and multiples

spread : (v w x p q : ℤ) → (v +ℤ w) *ℤ x +ℤ (p +ℤ q) ≡ (v *ℤ x +ℤ p) +ℤ (w *ℤ x +ℤ q)
spread v w x p q = same_number ((dv v ⊕ dv w) ⊗ dv x ⊕ (dv p ⊕ dv q)) ((dv v ⊗ dv x ⊕ dv p) ⊕ (dv w ⊗ dv x ⊕ dv q)) (omega arith)

pub weight-sum : (v w : List ℤ) (x : Exponents) → length v ≡ length w → whole_weight (vector_sum v w) x ≡ whole_weight v x +ℤ whole_weight w x
weight-sum [] [] x e = refl
weight-sum [] (b ∷ w) x e = absurd (omega arith)
weight-sum (a ∷ v) [] x e = absurd (omega arith)
weight-sum (a ∷ v) (b ∷ w) [] e = refl
weight-sum (a ∷ v) (b ∷ w) (c ∷ x) e = ap (λ z. (a +ℤ b) *ℤ pos c +ℤ z) (weight-sum v w x (omega arith)) ∙ spread a b (pos c) (whole_weight v x)
    (whole_weight w x)

pub weight-multiple : (k : ℤ) (v : List ℤ) (x : Exponents) → whole_weight (scaled k v) x ≡ k *ℤ whole_weight v x
weight-multiple k [] x = sym (*ℤ-zero k)
weight-multiple k (a ∷ v) [] = sym (*ℤ-zero k)
weight-multiple k (a ∷ v) (c ∷ x) = ap (λ z. k *ℤ a *ℤ pos c +ℤ z) (weight-multiple k v x) ∙ times_step k a (pos c) (whole_weight v x)

-- ---- monomials a multiple apart

scaled_number : (w x y k a : ℤ) → x ≡ y +ℤ k *ℤ a → w *ℤ x ≡ w *ℤ y +ℤ k *ℤ (a *ℤ w)
scaled_number w x y k a h = ap (λ z. w *ℤ z) h ∙ same_number (dv w ⊗ (dv y ⊕ dv k ⊗ dv a)) (dv w ⊗ dv y ⊕ dv k ⊗ (dv a ⊗ dv w)) (omega arith)

front_weight : (w : ℤ) (v : List ℤ) (x : Exponents) → whole_weight (w ∷ v) x ≡ w *ℤ pos (entry x 0) +ℤ whole_weight v (rest x)
unfolding rest
front_weight w [] [] = sym (ap (λ z. z +ℤ pos 0) (*ℤ-zero w))
front_weight w (u ∷ v) [] = sym (ap (λ z. z +ℤ pos 0) (*ℤ-zero w))
front_weight w v (a ∷ x) = refl

-- the weights of monomials k times a apart
pub weight-apart : (v a : List ℤ) (x y : Exponents) (k : ℤ) →
    ((i : ℕ) → pos (entry x i) ≡ pos (entry y i) +ℤ k *ℤ get_or a i (pos 0)) →
    whole_weight v x ≡ whole_weight v y +ℤ k *ℤ dot a v
weight-apart v [] x y k h =
    let s : same x y ≡ true = same_by_entries x y (λ i. omega (arith, ints, h i, *ℤ-zero k)) in
    omega (arith, ints, whole_weight-same v x y s, *ℤ-zero k)
weight-apart [] (b ∷ a) x y k h = omega (arith, ints, *ℤ-zero k)
weight-apart (w ∷ v) (b ∷ a) x y k h =
    let r = weight-apart v a (rest x) (rest y) k (λ i. ap pos (entry-rest x i) ∙ h (suc i) ∙ ap (λ z. pos z +ℤ k *ℤ get_or a i (pos 0))
    (sym (entry-rest y i))) in
    omega (arith, ints, front_weight w v x, front_weight w v y, scaled_number w (pos (entry x 0)) (pos (entry y 0)) k b (h 0), r, *ℤ-+ℤ k (b *ℤ w) (dot a v))

-- further along a vector that v is orthogonal to: of the same weight
pub further-weight : (v a : List ℤ) (x y : Exponents) → dot a v ≡ pos 0 → IsFurther a x y → whole_weight v x ≡ whole_weight v y
further-weight v a x y e h = omega (arith, ints, weight-apart v a x y (pos h.0) h.2, ap (λ z. pos h.0 *ℤ z) e, *ℤ-zero (pos h.0))

-- ---- by whole weights first, then by natural ones, then lex

abbrev pub IsTilted : List ℤ → List ℕ → Exponents → Exponents → Type 0
IsTilted v w x y = (whole_weight v x <ℤ whole_weight v y) ⊎ ((whole_weight v x ≡ whole_weight v y) × IsWeightedBelow w x y)

-- it is strict
pub tilted-strict : (v : List ℤ) (w : List ℕ) → IsStrict (IsTilted v w)
tilted-strict v w = record { irreflexive = never; transitive = chain; invariant = shift; along_left = left; along_right = right }
  where
    o : IsStrict (IsWeightedBelow w)
    o = (weighted-order w).strict

    never : (x y : Exponents) → same x y ≡ true → IsTilted v w x y → ⊥
    never x y s (inl h) = absurd (omega (arith, ints, h, whole_weight-same v x y s))
    never x y s (inr h) = o.irreflexive x y s h.1

    chain : (x y z : Exponents) → IsTilted v w x y → IsTilted v w y z → IsTilted v w x z
    chain x y z (inl h) (inl k) = inl (omega (arith, ints, h, k))
    chain x y z (inl h) (inr k) = inl (omega (arith, ints, h, k.0))
    chain x y z (inr h) (inl k) = inl (omega (arith, ints, h.0, k))
    chain x y z (inr h) (inr k) = inr (h.0 ∙ k.0, o.transitive x y z h.1 k.1)

    shift : (z x y : Exponents) → IsTilted v w x y → IsTilted v w (plus z x) (plus z y)
    shift z x y (inl h) = inl (omega (arith, ints, h, weight-product v z x, weight-product v z y))
    shift z x y (inr h) = inr (omega (arith, ints, h.0, weight-product v z x, weight-product v z y), o.invariant z x y h.1)

    left : (x y z : Exponents) → same x y ≡ true → IsTilted v w x z → IsTilted v w y z
    left x y z s (inl h) = inl (omega (arith, ints, h, whole_weight-same v x y s))
    left x y z s (inr h) = inr (sym (whole_weight-same v x y s) ∙ h.0, o.along_left x y z s h.1)

    right : (x y z : Exponents) → same y z ≡ true → IsTilted v w x y → IsTilted v w x z
    right x y z s (inl h) = inl (omega (arith, ints, h, whole_weight-same v y z s))
    right x y z s (inr h) = inr (h.0 ∙ whole_weight-same v y z s, o.along_right x y z s h.1)

-- it is a monomial order
pub tilted-order : (v : List ℤ) (w : List ℕ) → IsMonomialOrder (IsTilted v w)
tilted-order v w = record { strict = tilted-strict v w; total = λ x y. at x y (three (whole_weight v x) (whole_weight v y)) ((weighted-order w).total x y) }
  where
    at : (x y : Exponents) → (whole_weight v x <ℤ whole_weight v y) ⊎ ((whole_weight v x ≡ whole_weight v y) ⊎ (whole_weight v y <ℤ whole_weight v x)) →
        IsWeightedBelow w x y ⊎ (same x y ≡ true) ⊎ IsWeightedBelow w y x → IsTilted v w x y ⊎ (same x y ≡ true) ⊎ IsTilted v w y x
    at x y (inl l) t = inl (inl l)
    at x y (inr (inr l)) t = inr (inr (inl l))
    at x y (inr (inl e)) (inl l) = inl (inr (e, l))
    at x y (inr (inl e)) (inr (inl s)) = inr (inl s)
    at x y (inr (inl e)) (inr (inr l)) = inr (inr (inr (sym e, l)))

-- ---- lighter, or further along a vector

pub no_multiple : (k : ℕ) (z : ℤ) → 1 ≤ k → pos k *ℤ z ≡ pos 0 → z ≡ pos 0
no_multiple k z l e = elim (zero_of_*ℤ (pos k) z e) [ inl q ↦ absurd (omega (arith, ints, q, l)) | inr q ↦ q ]

sums : (a b c x : ℤ) (j k : ℕ) → a ≡ b +ℤ pos j *ℤ x → b ≡ c +ℤ pos k *ℤ x → a ≡ c +ℤ pos (j + k) *ℤ x
sums a b c x j k p q = p ∙ ap (λ z. z +ℤ pos j *ℤ x) q ∙ same_number (dv c ⊕ dn k ⊗ dv x ⊕ dn j ⊗ dv x) (dv c ⊕ dn (j + k) ⊗ dv x) (omega arith)

-- further along a vector that isn't zero is a strict comparison
pub further-strict : (a : List ℤ) → IsNonzero a → IsStrict (IsFurther a)
further-strict a n = record {
  irreflexive = λ x y s h. n.1 (no_multiple h.0 (get_or a n.0 (pos 0)) h.1 (omega (arith, ints, h.2 n.0, entries_same x y s n.0)));
  transitive = λ x y z h k. (
    h.0 + k.0,
    omega (arith, h.1),
    λ i. sums (pos (entry x i)) (pos (entry y i)) (pos (entry z i)) (get_or a i (pos 0)) h.0 k.0 (h.2 i)
        (k.2 i),
  );
  invariant = λ z x y h. (h.0, h.1, λ i. omega (arith, ints, h.2 i, entry-plus z x i, entry-plus z y i));
  along_left = λ x y z s h. (h.0, h.1, λ i. ap pos (sym (entries_same x y s i)) ∙ h.2 i);
  along_right = λ x y z s h. (h.0, h.1, λ i. h.2 i ∙ ap (λ e. pos e +ℤ pos h.0 *ℤ get_or a i (pos 0)) (entries_same y z s i));
}

-- so is lighter or further along, where the weight is orthogonal to the vector
pub beyond-strict : (v a : List ℤ) → dot a v ≡ pos 0 → IsNonzero a → IsStrict (IsBeyond v a)
beyond-strict v a e n = record { irreflexive = never; transitive = chain; invariant = shift; along_left = left; along_right = right }
  where
    o : IsStrict (IsFurther a)
    o = further-strict a n

    never : (x y : Exponents) → same x y ≡ true → IsBeyond v a x y → ⊥
    never x y s (inl h) = absurd (omega (arith, ints, h, whole_weight-same v x y s))
    never x y s (inr h) = o.irreflexive x y s h

    chain : (x y z : Exponents) → IsBeyond v a x y → IsBeyond v a y z → IsBeyond v a x z
    chain x y z (inl h) (inl k) = inl (omega (arith, ints, h, k))
    chain x y z (inl h) (inr k) = inl (omega (arith, ints, h, further-weight v a y z e k))
    chain x y z (inr h) (inl k) = inl (omega (arith, ints, further-weight v a x y e h, k))
    chain x y z (inr h) (inr k) = inr (o.transitive x y z h k)

    shift : (z x y : Exponents) → IsBeyond v a x y → IsBeyond v a (plus z x) (plus z y)
    shift z x y (inl h) = inl (omega (arith, ints, h, weight-product v z x, weight-product v z y))
    shift z x y (inr h) = inr (o.invariant z x y h)

    left : (x y z : Exponents) → same x y ≡ true → IsBeyond v a x z → IsBeyond v a y z
    left x y z s (inl h) = inl (omega (arith, ints, h, whole_weight-same v x y s))
    left x y z s (inr h) = inr (o.along_left x y z s h)

    right : (x y z : Exponents) → same y z ≡ true → IsBeyond v a x y → IsBeyond v a x z
    right x y z s (inl h) = inl (omega (arith, ints, h, whole_weight-same v y z s))
    right x y z s (inr h) = inr (o.along_right x y z s h)
