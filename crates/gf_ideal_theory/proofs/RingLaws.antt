-- Monomials in the first n variables.
-- To cite: in_ring (a monomial is one in the first n variables, or it isn't), beyond, ring-along, ring-left, ring-plus, same_in_ring, in_ring_of;
-- entry-degree, degree-none.
use Rattle.std.proofs.Common.{◌≡◌, ◌⊎◌, ℕ, zero, suc, ◌≤◌, Bool, true, false, [], ◌∷◌, arith, refl, sym, ◌∙◌, inl, inr, ◌<◌, length}
use Rattle.std.proofs.lemmas.Bool.{cases_lt}
use Rattle.gf_exponents_theory.specs.Exponents.{Exponents, entry, same, plus, IsInRing, degree}
use Rattle.gf_exponents_theory.proofs.ExponentsLaws.{entry-plus, entries_same, same_by_entries, entry-past}

-- without the first variable
unfoldable pub rest : Exponents → Exponents
rest [] = []
rest (a ∷ x) = x

-- its exponents
pub entry-rest : (x : Exponents) (i : ℕ) → entry (rest x) i ≡ entry x (suc i)
unfolding rest
entry-rest [] i = refl
entry-rest (a ∷ x) i = refl

-- two monomials agree past the first n variables, or they don't
pub beyond : (n : ℕ) (x y : Exponents) →
    ((i : ℕ) → n ≤ i → entry x i ≡ entry y i) ⊎ (((i : ℕ) → n ≤ i → entry x i ≡ entry y i) → ⊥)
beyond zero x y = at (same x y) refl
  where
    at : (b : Bool) → same x y ≡ b →
        ((i : ℕ) → 0 ≤ i → entry x i ≡ entry y i) ⊎ (((i : ℕ) → 0 ≤ i → entry x i ≡ entry y i) → ⊥)
    at true s = inl (λ i l. entries_same x y s i)
    at false s = inr (λ h. let t : same x y ≡ true = same_by_entries x y (λ i. h i (omega arith)) in absurd (cc))
beyond (suc n) x y = elim (beyond n (rest x) (rest y)) [
  | inl h ↦ inl (λ i l. after i l h)
  | inr h ↦ inr (λ k. h (λ i l. entry-rest x i ∙ k (suc i) (omega arith) ∙ sym (entry-rest y i)))
]
  where
    after : (i : ℕ) → suc n ≤ i → ((j : ℕ) → n ≤ j → entry (rest x) j ≡ entry (rest y) j) → entry x i ≡ entry y i
    after zero l h = absurd (omega arith)
    after (suc i) l h = sym (entry-rest x i) ∙ h i (omega arith) ∙ entry-rest y i

-- whether x is in the first n variables is decided
pub in_ring : (n : ℕ) (x : Exponents) → IsInRing n x ⊎ (IsInRing n x → ⊥)
in_ring n x = beyond n x []

-- the same monomial
pub ring-along : (n : ℕ) (x y : Exponents) → same x y ≡ true → IsInRing n x → IsInRing n y
ring-along n x y s h = λ i l. sym (entries_same x y s i) ∙ h i l

-- a divisor
pub ring-left : (n : ℕ) (u y : Exponents) → IsInRing n (plus u y) → IsInRing n u
ring-left n u y h = λ i l. omega (arith, h i l, entry-plus u y i)

-- a product
pub ring-plus : (n : ℕ) (u y : Exponents) → IsInRing n u → IsInRing n y → IsInRing n (plus u y)
ring-plus n u y h k = λ i l. omega (arith, h i l, k i l, entry-plus u y i)

-- two monomials in the first n variables are the same where their first n exponents are
pub same_in_ring : (n : ℕ) (x y : Exponents) → IsInRing n x → IsInRing n y → ((i : ℕ) → i < n → entry x i ≡ entry y i) → same x y ≡ true
same_in_ring n x y h k e = same_by_entries x y (λ i. elim (cases_lt i n) [ inl l ↦ e i l | inr l ↦ h i (omega arith) ∙ sym (k i (omega arith)) ])

-- n exponents are of the first n variables
pub in_ring_of : (n : ℕ) (u : Exponents) → length u ≡ n → IsInRing n u
in_ring_of n u l i h = entry-past u i (omega arith)

-- no exponent is above the degree
pub entry-degree : (x : Exponents) (i : ℕ) → entry x i ≤ degree x
entry-degree [] i = omega arith
entry-degree (a ∷ x) zero = omega arith
entry-degree (a ∷ x) (suc i) = omega (arith, entry-degree x i)

-- a monomial of degree 0 is 1
pub degree-none : (x : Exponents) → degree x ≡ 0 → same x [] ≡ true
degree-none [] e = refl
degree-none (zero ∷ x) e = degree-none x (omega (arith, e))
degree-none (suc a ∷ x) e = absurd (omega (arith, e))
