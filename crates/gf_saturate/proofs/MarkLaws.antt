-- What a least common multiple of marks says of them.
-- To cite: covers_more, covers_all, free_more, free_skip, free_all, free_narrowed.
use Rattle.std.proofs.Common.{◌≡◌, ◌⊎◌, ℕ, zero, suc, ◌+◌, ◌<◌, ◌≤◌, ◌==◌, false, List, [], ◌∷◌, ◌++◌, Contains, length, take, get_or, arith, refl, sym, ap}
use Rattle.std.proofs.Common.{◌∙◌, subst, inl, inr}
use Rattle.std.proofs.lemmas.Bool.Decides.{nat_tests}
use Rattle.std.proofs.lemmas.List.{take_more, take_all}
use Rattle.gf_exponents_theory.specs.Exponents.{Exponents, entry, join}
use Rattle.gf_exponents_theory.proofs.ExponentsLaws.{entry-join}
use Rattle.gf_int_theory.proofs.ListLaws.{Contains-last}
use Rattle.gf_poly.specs.Marking.{MarkedPolynomial}
use Rattle.gf_saturate.specs.Marks.{CoverHeads, CoverFreeHeads}

-- what the list to the next index has
so_far : (bs : List MarkedPolynomial) (i : ℕ) (b c : MarkedPolynomial) → i < length bs → b ≡ get_or bs i b → Contains (take (i + 1) bs) c →
    Contains (take i bs) c ⊎ (c ≡ b)
so_far bs i b c l e m = Contains-last (take i bs) b c (subst (λ (zs : List MarkedPolynomial). Contains zs c)
    (take_more bs i b l ∙ ap (λ (d : MarkedPolynomial). take i bs ++ d ∷ []) (sym e)) m)

left_zero : (x y : Exponents) (k : ℕ) → entry (join x y) k ≡ 0 → entry x k ≡ 0
left_zero x y k z = omega (arith, entry-join x y k, z)

right_zero : (x y : Exponents) (k : ℕ) → entry (join x y) k ≡ 0 → entry y k ≡ 0
right_zero x y k z = omega (arith, entry-join x y k, z)

-- ---- of all members

pub covers_more : (bs : List MarkedPolynomial) (i : ℕ) (b : MarkedPolynomial) (x : Exponents) → i < length bs → b ≡ get_or bs i b → CoverHeads (take i bs) x →
    CoverHeads (take (i + 1) bs) (join x b.head)
covers_more bs i b x l e h k z c m = at (so_far bs i b c l e m)
  where
    at : Contains (take i bs) c ⊎ (c ≡ b) → entry c.head k ≡ 0
    at (inl n) = h k (left_zero x b.head k z) c n
    at (inr q) = ap (λ (d : MarkedPolynomial). entry d.head k) q ∙ right_zero x b.head k z

pub covers_all : (bs : List MarkedPolynomial) (i : ℕ) (x : Exponents) → length bs ≤ i → CoverHeads (take i bs) x → CoverHeads bs x
covers_all bs i x l h = subst (λ (zs : List MarkedPolynomial). CoverHeads zs x) (take_all i bs l) h

-- ---- of those without the last variable

pub free_more : (n : ℕ) (bs : List MarkedPolynomial) (i : ℕ) (b : MarkedPolynomial) (x : Exponents) → i < length bs → b ≡ get_or bs i b →
    CoverFreeHeads n (take i bs) x → CoverFreeHeads n (take (i + 1) bs) (join x b.head)
free_more n bs i b x l e h k j z c m q = at (so_far bs i b c l e m)
  where
    at : Contains (take i bs) c ⊎ (c ≡ b) → entry c.head k ≡ 0
    at (inl o) = h k j (left_zero x b.head k z) c o q
    at (inr o) = ap (λ (d : MarkedPolynomial). entry d.head k) o ∙ right_zero x b.head k z

not_equal : (a : ℕ) → (a == 0) ≡ false → a ≡ 0 → ⊥
not_equal a h e = absurd (grind (arith, nat_tests))

pub free_skip : (n : ℕ) (bs : List MarkedPolynomial) (i : ℕ) (b : MarkedPolynomial) (x : Exponents) → i < length bs → b ≡ get_or bs i b →
    (entry b.head n == 0) ≡ false → CoverFreeHeads n (take i bs) x → CoverFreeHeads n (take (i + 1) bs) x
free_skip n bs i b x l e f h k j z c m q = at (so_far bs i b c l e m)
  where
    at : Contains (take i bs) c ⊎ (c ≡ b) → entry c.head k ≡ 0
    at (inl o) = h k j z c o q
    at (inr o) = absurd (not_equal (entry b.head n) f (ap (λ (d : MarkedPolynomial). entry d.head n) (sym o) ∙ q))

pub free_all : (n : ℕ) (bs : List MarkedPolynomial) (i : ℕ) (x : Exponents) → length bs ≤ i → CoverFreeHeads n (take i bs) x → CoverFreeHeads n bs x
free_all n bs i x l h = subst (λ (zs : List MarkedPolynomial). CoverFreeHeads n zs x) (take_all i bs l) h

entry-take : (n k : ℕ) (x : Exponents) → k < n → entry (take n x) k ≡ entry x k
entry-take zero k x l = absurd (omega arith)
entry-take (suc n) k [] l = refl
entry-take (suc n) zero (a ∷ x) l = refl
entry-take (suc n) (suc k) (a ∷ x) l = entry-take n k x (omega arith)

pub free_narrowed : (n : ℕ) (bs : List MarkedPolynomial) (x y : Exponents) → y ≡ take n x → CoverFreeHeads n bs x → CoverFreeHeads n bs y
free_narrowed n bs x y e h k l z b m q = h k l (sym (entry-take n k x l) ∙ ap (λ (t : Exponents). entry t k) (sym e) ∙ z) b m q
