-- Whole weights as rows, and the order of a row.
-- To cite: whole_weight-same, row-less, row-alike, negated-less, negated-alike, natural-weight, length-gains, length-losses,
-- positive-gains, row-order. The rest are steps.
use Rattle.std.proofs.Common.{◌≡◌, ◌⊎◌, ◌↔◌, ℕ, zero, suc, ◌+◌, ◌*◌, ◌<◌, ◌≤◌, true, List, [], ◌∷◌, length, All, ℤ, pos, negsuc, ◌+ℤ◌, ◌*ℤ◌, ◌<ℤ◌, ◌≤ℤ◌, arith}
use Rattle.std.proofs.Common.{refl, inl, inr}
use Rattle.std.proofs.lemmas.Bool.{cases_lt}
use Rattle.std.proofs.lemmas.Int.{ints}
use Rattle.std.proofs.lemmas.List.Elements.{recursion_from_All}
use Rattle.std.specs.List.{AllByRecursion}
use Rattle.gf_exponents_theory.specs.Exponents.{Exponents, entry, same, plus, weight, whole_weight}
use Rattle.gf_exponents_theory.specs.Orders.{IsStrict, IsMonomialOrder, WeightRow, is_less, is_alike, row_of, negated_row_of, gains, losses, IsLexBelow}
use Rattle.gf_exponents_theory.specs.Orders.{IsFacetBelow}
use Rattle.gf_exponents_theory.proofs.WeightLaws.{weight-plus, weight-same}
use Rattle.gf_exponents_theory.proofs.OrderLaws.{lex-strict, lex-total}

-- ---- whole weights are rows

-- what counts for x is its weight and what counts against it
pub weight_split : (w : List ℤ) (x : Exponents) → whole_weight w x +ℤ pos (weight (losses w) x) ≡ pos (weight (gains w) x)
weight_split [] x = refl
weight_split (pos k ∷ ws) [] = refl
weight_split (negsuc k ∷ ws) [] = refl
weight_split (pos k ∷ ws) (a ∷ x) = omega (arith, ints, weight_split ws x)
weight_split (negsuc k ∷ ws) (a ∷ x) = let e : negsuc k *ℤ pos a +ℤ pos (suc k * a) ≡ pos 0 = omega (arith, ints) in omega (arith, ints, weight_split ws x, e)

pub whole_weight-same : (w : List ℤ) (x y : Exponents) → same x y ≡ true → whole_weight w x ≡ whole_weight w y
whole_weight-same w x y s = omega (arith, ints, weight_split w x, weight_split w y, weight-same (gains w) x y s, weight-same (losses w) x y s)

pub row-less : (w : List ℤ) (x y : Exponents) → is_less (row_of w) x y ↔ whole_weight w x <ℤ whole_weight w y
row-less w x y = (λ h. omega (arith, ints, weight_split w x, weight_split w y, h), λ h. omega (arith, ints, weight_split w x, weight_split w y, h))

pub row-alike : (w : List ℤ) (x y : Exponents) → is_alike (row_of w) x y ↔ (whole_weight w x ≡ whole_weight w y)
row-alike w x y = (λ h. omega (arith, ints, weight_split w x, weight_split w y, h), λ h. omega (arith, ints, weight_split w x, weight_split w y, h))

pub negated-less : (w : List ℤ) (x y : Exponents) → is_less (negated_row_of w) x y ↔ whole_weight w y <ℤ whole_weight w x
negated-less w x y = (λ h. omega (arith, ints, weight_split w x, weight_split w y, h), λ h. omega (arith, ints, weight_split w x, weight_split w y, h))

pub negated-alike : (w : List ℤ) (x y : Exponents) → is_alike (negated_row_of w) x y ↔ (whole_weight w x ≡ whole_weight w y)
negated-alike w x y = (λ h. omega (arith, ints, weight_split w x, weight_split w y, h), λ h. omega (arith, ints, weight_split w x, weight_split w y, h))

-- where no entry is negative, what counts for x is all
pub natural-weight : (w : List ℤ) (x : Exponents) → All (λ k. pos 0 ≤ℤ k) w → pos (weight (gains w) x) ≡ whole_weight w x
natural-weight w x h = at w x (recursion_from_All (λ k. pos 0 ≤ℤ k) w h)
  where
    at : (w : List ℤ) (x : Exponents) → AllByRecursion (λ k. pos 0 ≤ℤ k) w → pos (weight (gains w) x) ≡ whole_weight w x
    at [] x h = refl
    at (pos k ∷ ws) [] h = refl
    at (negsuc k ∷ ws) [] h = refl
    at (pos k ∷ ws) (a ∷ x) h = omega (arith, ints, at ws x h.1)
    at (negsuc k ∷ ws) (a ∷ x) h = absurd (omega (arith, ints, h.0))

pub length-gains : (w : List ℤ) → length (gains w) ≡ length w
length-gains [] = refl
length-gains (pos k ∷ ws) = omega (arith, length-gains ws)
length-gains (negsuc k ∷ ws) = omega (arith, length-gains ws)

pub length-losses : (w : List ℤ) → length (losses w) ≡ length w
length-losses [] = refl
length-losses (pos k ∷ ws) = omega (arith, length-losses ws)
length-losses (negsuc k ∷ ws) = omega (arith, length-losses ws)

-- where no entry is below 1, each of what counts for x is at least 1
pub positive-gains : (w : List ℤ) → All (λ k. pos 1 ≤ℤ k) w → (i : ℕ) → i < length w → 1 ≤ entry (gains w) i
positive-gains w h i l = at w (recursion_from_All (λ k. pos 1 ≤ℤ k) w h) i l
  where
    at : (w : List ℤ) → AllByRecursion (λ k. pos 1 ≤ℤ k) w → (i : ℕ) → i < length w → 1 ≤ entry (gains w) i
    at [] h i l = absurd (omega arith)
    at (pos k ∷ ws) h zero l = omega (arith, ints, h.0)
    at (negsuc k ∷ ws) h zero l = absurd (omega (arith, ints, h.0))
    at (pos k ∷ ws) h (suc i) l = at ws h.1 i (omega arith)
    at (negsuc k ∷ ws) h (suc i) l = at ws h.1 i (omega arith)

-- ---- the order of a row

row-strict : (r : WeightRow) → IsStrict (IsFacetBelow r)
row-strict r = record { irreflexive = never; transitive = chain; invariant = shift; along_left = left; along_right = right }
  where
    never : (x y : Exponents) → same x y ≡ true → IsFacetBelow r x y → ⊥
    never x y s (inl h) = absurd (omega (arith, h, weight-same r.gain x y s, weight-same r.loss x y s))
    never x y s (inr h) = lex-strict.irreflexive x y s h.1

    chain : (x y z : Exponents) → IsFacetBelow r x y → IsFacetBelow r y z → IsFacetBelow r x z
    chain x y z (inl h) (inl k) = inl (omega (arith, h, k))
    chain x y z (inl h) (inr k) = inl (omega (arith, h, k.0))
    chain x y z (inr h) (inl k) = inl (omega (arith, h.0, k))
    chain x y z (inr h) (inr k) = inr (omega (arith, h.0, k.0), lex-strict.transitive x y z h.1 k.1)

    shift : (z x y : Exponents) → IsFacetBelow r x y → IsFacetBelow r (plus z x) (plus z y)
    shift z x y (inl h) = inl (omega (arith, h, weight-plus r.gain z x, weight-plus r.gain z y, weight-plus r.loss z x, weight-plus r.loss z y))
    shift z x y (inr h) = inr (
      omega (arith, h.0, weight-plus r.gain z x, weight-plus r.gain z y, weight-plus r.loss z x, weight-plus r.loss z y),
      lex-strict.invariant z x y h.1,
    )

    left : (x y z : Exponents) → same x y ≡ true → IsFacetBelow r x z → IsFacetBelow r y z
    left x y z s (inl h) = inl (omega (arith, h, weight-same r.gain x y s, weight-same r.loss x y s))
    left x y z s (inr h) = inr (omega (arith, h.0, weight-same r.gain x y s, weight-same r.loss x y s), lex-strict.along_left x y z s h.1)

    right : (x y z : Exponents) → same y z ≡ true → IsFacetBelow r x y → IsFacetBelow r x z
    right x y z s (inl h) = inl (omega (arith, h, weight-same r.gain y z s, weight-same r.loss y z s))
    right x y z s (inr h) = inr (omega (arith, h.0, weight-same r.gain y z s, weight-same r.loss y z s), lex-strict.along_right x y z s h.1)

row-total : (r : WeightRow) (x y : Exponents) → IsFacetBelow r x y ⊎ (same x y ≡ true) ⊎ IsFacetBelow r y x
row-total r x y = at (cases_lt (weight r.gain x + weight r.loss y) (weight r.gain y + weight r.loss x))
    (cases_lt (weight r.gain y + weight r.loss x) (weight r.gain x + weight r.loss y)) (lex-total x y)
  where
    at : is_less r x y ⊎ (weight r.gain y + weight r.loss x ≤ weight r.gain x + weight r.loss y) →
        (weight r.gain y + weight r.loss x < weight r.gain x + weight r.loss y) ⊎ (weight r.gain x + weight r.loss y ≤ weight r.gain y + weight r.loss x) →
        IsLexBelow x y ⊎ (same x y ≡ true) ⊎ IsLexBelow y x →
        IsFacetBelow r x y ⊎ (same x y ≡ true) ⊎ IsFacetBelow r y x
    at (inl l) q i = inl (inl l)
    at (inr g) (inl l) i = inr (inr (inl l))
    at (inr g) (inr h) (inl l) = inl (inr (omega arith, l))
    at (inr g) (inr h) (inr (inl e)) = inr (inl e)
    at (inr g) (inr h) (inr (inr l)) = inr (inr (inr (omega arith, l)))

-- the order of a row is a monomial order
pub row-order : (r : WeightRow) → IsMonomialOrder (IsFacetBelow r)
row-order r = record { strict = row-strict r; total = row-total r }
