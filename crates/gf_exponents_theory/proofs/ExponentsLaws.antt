-- Monomials form a commutative monoid with cancellation; divisibility, least common multiples, quotients.
-- To cite: plus_assoc, plus_comm, same_trans, same_flip, same-plus, multiple_or_not, same_by_entries, entries_same and
-- same_lists, by which a fact on exponent vectors becomes one on each entry. The rest are steps.
use Rattle.std.proofs.Common.{◌≡◌, ◌⊎◌, ℕ, zero, suc, ◌+◌, ◌-◌, ◌≤◌, true, false, ◌&&◌, ◌==◌, [], ◌∷◌, max, length, arith, refl, sym, ap, ◌∙◌, inl, inr, get_or}
use Rattle.std.proofs.lemmas.Bool.Decides.{nat_tests}
use Rattle.std.proofs.lemmas.Bool.{cases_lt, and_parts, and_from, and_right}
use Rattle.gf_exponents_theory.specs.Exponents.{Exponents, entry, same, plus, join, minus, AreCoprime, NoMultiple}

-- ---- products

pub plus-nil : (x : Exponents) → plus x [] ≡ x
plus-nil [] = refl
plus-nil (a ∷ x) = refl

pub plus_assoc : (x y z : Exponents) → plus (plus x y) z ≡ plus x (plus y z)
plus_assoc [] y z = refl
plus_assoc (a ∷ x) [] z = refl
plus_assoc (a ∷ x) (b ∷ y) [] = refl
plus_assoc (a ∷ x) (b ∷ y) (c ∷ z) = let e : a + b + c ≡ a + (b + c) = omega arith in let f = plus_assoc x y z in cc

same_numbers : (a : ℕ) → (a == a) ≡ true
same_numbers a = grind (arith, nat_tests)

pub same-refl : (x : Exponents) → same x x ≡ true
same-refl [] = refl
same-refl (a ∷ x) = ap (λ t. t && same x x) (same_numbers a) ∙ same-refl x

pub same-sym : (x y : Exponents) → same x y ≡ same y x
same-sym [] [] = refl
same-sym [] (b ∷ y) = ap (λ t. (b == 0) && t) (same-sym [] y)
same-sym (a ∷ x) [] = ap (λ t. (a == 0) && t) (same-sym x [])
same-sym (a ∷ x) (b ∷ y) = ap (λ s. s && same x y) (flip a b) ∙ ap (λ t. (b == a) && t) (same-sym x y)
  where
    flip : (a b : ℕ) → (a == b) ≡ (b == a)
    flip a b = grind (arith, nat_tests)

-- a common factor cancels
pub same-plus : (x y z : Exponents) → same (plus x y) (plus x z) ≡ same y z
same-plus [] y z = refl
same-plus (a ∷ x) [] [] = same-refl (a ∷ x)
same-plus (a ∷ x) [] (c ∷ z) = ap (λ s. s && same x (plus x z)) (one a c) ∙ ap (λ t. (c == 0) && t)
    (ap (λ w. same w (plus x z)) (sym (plus-nil x)) ∙ same-plus x [] z)
  where
    one : (a c : ℕ) → (a == (a + c)) ≡ (c == 0)
    one a c = grind (arith, nat_tests)
same-plus (a ∷ x) (b ∷ y) [] = ap (λ s. s && same (plus x y) x) (one a b) ∙ ap (λ t. (b == 0) && t)
    (ap (λ w. same (plus x y) w) (sym (plus-nil x)) ∙ same-plus x y [])
  where
    one : (a b : ℕ) → ((a + b) == a) ≡ (b == 0)
    one a b = grind (arith, nat_tests)
same-plus (a ∷ x) (b ∷ y) (c ∷ z) = ap (λ s. s && same (plus x y) (plus x z)) (one a b c) ∙ ap (λ t. (b == c) && t) (same-plus x y z)
  where
    one : (a b c : ℕ) → ((a + b) == (a + c)) ≡ (b == c)
    one a b c = grind (arith, nat_tests)

pub eq_by : (a b : ℕ) → (a == b) ≡ true → a ≡ b
eq_by a b h = grind (arith, nat_tests)

not_eq : (a b : ℕ) → ¬ (a ≡ b) → (a == b) ≡ false
not_eq a b h = grind (arith, nat_tests)

-- equal on both sides
pub same_along : (x y z : Exponents) → same x y ≡ true → same x z ≡ same y z
same_along [] [] z h = refl
same_along [] (b ∷ y) [] h = sym h ∙ same-sym [] (b ∷ y)
same_along [] (b ∷ y) (c ∷ z) h =
    let p = and_parts (b == 0) (same [] y) h in
    ap (λ n. (c == 0) && n) (same_along [] y z p.1) ∙ ap (λ s. s && same y z) (one b c (eq_by b 0 p.0))
  where
    one : (b c : ℕ) → b ≡ 0 → (c == 0) ≡ (b == c)
    one b c h = grind (arith, nat_tests)
same_along (a ∷ x) [] [] h = h
same_along (a ∷ x) [] (c ∷ z) h =
    let p = and_parts (a == 0) (same x []) h in
    ap (λ n. (a == c) && n) (same_along x [] z p.1) ∙ ap (λ s. s && same [] z) (one a c (eq_by a 0 p.0))
  where
    one : (a c : ℕ) → a ≡ 0 → (a == c) ≡ (c == 0)
    one a c h = grind (arith, nat_tests)
same_along (a ∷ x) (b ∷ y) [] h =
    let p = and_parts (a == b) (same x y) h in
    ap (λ n. (a == 0) && n) (same_along x y [] p.1) ∙ ap (λ s. s && same y []) (ap (λ n. n == 0) (eq_by a b p.0))
same_along (a ∷ x) (b ∷ y) (c ∷ z) h =
    let p = and_parts (a == b) (same x y) h in
    ap (λ n. (a == c) && n) (same_along x y z p.1) ∙ ap (λ s. s && same y z) (ap (λ n. n == c) (eq_by a b p.0))

none_here : (a b : ℕ) (x e : Exponents) → b + 1 ≤ a → NoMultiple (a ∷ x) (b ∷ e)
none_here a b x e h [] = ap (λ s. s && same e x) (not_eq b a (λ q. absurd (omega arith)))
none_here a b x e h (c ∷ y) = ap (λ s. s && same e (plus x y)) (not_eq b (a + c) (λ q. absurd (omega arith)))

none_after : (a b : ℕ) (x e : Exponents) → NoMultiple x e → NoMultiple (a ∷ x) (b ∷ e)
none_after a b x e h [] = and_right (b == a) (same e x) (ap (same e) (sym (plus-nil x)) ∙ h [])
none_after a b x e h (c ∷ y) = and_right (b == (a + c)) (same e (plus x y)) (h y)

empty_none_here : (a : ℕ) (x : Exponents) → 1 ≤ a → NoMultiple (a ∷ x) []
empty_none_here a x h [] = ap (λ s. s && same [] x) (not_eq a 0 (λ q. absurd (omega arith)))
empty_none_here a x h (c ∷ y) = ap (λ s. s && same [] (plus x y)) (not_eq (a + c) 0 (λ q. absurd (omega arith)))

empty_none_after : (a : ℕ) (x : Exponents) → NoMultiple x [] → NoMultiple (a ∷ x) []
empty_none_after a x h [] = and_right (a == 0) (same [] x) (ap (same []) (sym (plus-nil x)) ∙ h [])
empty_none_after a x h (c ∷ y) = and_right ((a + c) == 0) (same [] (plus x y)) (h y)

pub multiple_or_not : (x e : Exponents) → ((y : Exponents) × (same e (plus x y) ≡ true)) ⊎ NoMultiple x e
multiple_or_not [] e = inl (e, same-refl e)
multiple_or_not (zero ∷ x) [] = elim (multiple_or_not x []) [
  | inl m ↦ inl (0 ∷ m.0, m.1)
  | inr n ↦ inr (empty_none_after 0 x n)
]
multiple_or_not (suc a ∷ x) [] = inr (empty_none_here (suc a) x (omega arith))
multiple_or_not (a ∷ x) (b ∷ e) = elim (le_or_above a b) [
  | inr above ↦ inr (none_here a b x e above)
  | inl le ↦ elim (multiple_or_not x e) [
    | inl m ↦ inl ((b - a) ∷ m.0, ap (λ s. s && same e (plus x m.0)) (whole a b le) ∙ m.1)
    | inr n ↦ inr (none_after a b x e n)
  ]
]
  where
    whole : (a b : ℕ) → a ≤ b → (b == (a + (b - a))) ≡ true
    whole a b h = grind (arith, nat_tests)

    le_or_above : (a b : ℕ) → (a ≤ b) ⊎ (b + 1 ≤ a)
    le_or_above a b = elim (cases_lt b a) [ inl l ↦ inr (omega arith) | inr g ↦ inl g ]

pub plus_comm : (x y : Exponents) → plus x y ≡ plus y x
plus_comm [] [] = refl
plus_comm [] (b ∷ y) = refl
plus_comm (a ∷ x) [] = refl
plus_comm (a ∷ x) (b ∷ y) = let e : a + b ≡ b + a = omega arith in let f = plus_comm x y in cc

-- ---- the same monomial

pub same_trans : (x y z : Exponents) → same x y ≡ true → same y z ≡ true → same x z ≡ true
same_trans x y z h k = same_along x y z h ∙ k

pub same_flip : (x y : Exponents) → same x y ≡ true → same y x ≡ true
same_flip x y h = same-sym y x ∙ h

pub same_shift : (z x y : Exponents) → same x y ≡ true → same (plus z x) (plus z y) ≡ true
same_shift z x y h = same-plus z x y ∙ h

pub same_shift_right : (z x y : Exponents) → same x y ≡ true → same (plus x z) (plus y z) ≡ true
same_shift_right z x y h = ap (λ a. same a (plus y z)) (plus_comm x z) ∙ ap (same (plus z x)) (plus_comm y z) ∙ same_shift z x y h

pub same_of : (x y : Exponents) → x ≡ y → same x y ≡ true
same_of x y e = ap (same x) (sym e) ∙ same-refl x

-- ---- entry by entry

pub entry-past : (x : Exponents) (i : ℕ) → length x ≤ i → entry x i ≡ 0
entry-past [] i l = refl
entry-past (a ∷ x) zero l = absurd (omega arith)
entry-past (a ∷ x) (suc i) l = entry-past x i (omega arith)

pub entry-plus : (x y : Exponents) (i : ℕ) → entry (plus x y) i ≡ entry x i + entry y i
entry-plus [] y i = omega arith
entry-plus (a ∷ x) [] zero = omega arith
entry-plus (a ∷ x) [] (suc i) = omega arith
entry-plus (a ∷ x) (b ∷ y) zero = refl
entry-plus (a ∷ x) (b ∷ y) (suc i) = entry-plus x y i

pub entry-join : (x y : Exponents) (i : ℕ) → entry (join x y) i ≡ max (entry x i) (entry y i)
entry-join [] y i = omega arith
entry-join (a ∷ x) [] zero = omega arith
entry-join (a ∷ x) [] (suc i) = omega arith
entry-join (a ∷ x) (b ∷ y) zero = refl
entry-join (a ∷ x) (b ∷ y) (suc i) = entry-join x y i

pub entry-minus : (x y : Exponents) (i : ℕ) → entry (minus x y) i ≡ entry x i - entry y i
entry-minus [] y i = omega arith
entry-minus (a ∷ x) [] zero = omega arith
entry-minus (a ∷ x) [] (suc i) = omega arith
entry-minus (a ∷ x) (b ∷ y) zero = refl
entry-minus (a ∷ x) (b ∷ y) (suc i) = entry-minus x y i

equal_test : (a b : ℕ) → a ≡ b → (a == b) ≡ true
equal_test a b h = grind (arith, nat_tests)

pub same_by_entries : (x y : Exponents) → ((i : ℕ) → entry x i ≡ entry y i) → same x y ≡ true
same_by_entries [] [] h = refl
same_by_entries [] (b ∷ y) h = and_from (b == 0) (same [] y) (equal_test b 0 (sym (h 0))) (same_by_entries [] y (λ i. h (suc i)))
same_by_entries (a ∷ x) [] h = and_from (a == 0) (same x []) (equal_test a 0 (h 0)) (same_by_entries x [] (λ i. h (suc i)))
same_by_entries (a ∷ x) (b ∷ y) h = and_from (a == b) (same x y) (equal_test a b (h 0)) (same_by_entries x y (λ i. h (suc i)))

pub entries_same : (x y : Exponents) → same x y ≡ true → (i : ℕ) → entry x i ≡ entry y i
entries_same [] [] h i = refl
entries_same [] (b ∷ y) h zero = sym (eq_by b 0 (and_parts (b == 0) (same [] y) h).0)
entries_same [] (b ∷ y) h (suc i) = entries_same [] y (and_parts (b == 0) (same [] y) h).1 i
entries_same (a ∷ x) [] h zero = eq_by a 0 (and_parts (a == 0) (same x []) h).0
entries_same (a ∷ x) [] h (suc i) = entries_same x [] (and_parts (a == 0) (same x []) h).1 i
entries_same (a ∷ x) (b ∷ y) h zero = eq_by a b (and_parts (a == b) (same x y) h).0
entries_same (a ∷ x) (b ∷ y) h (suc i) = entries_same x y (and_parts (a == b) (same x y) h).1 i

pub entry-get_or : (x : Exponents) (i : ℕ) → get_or x i 0 ≡ entry x i
entry-get_or [] i = refl
entry-get_or (a ∷ x) zero = refl
entry-get_or (a ∷ x) (suc i) = entry-get_or x i

-- two lists of one length with the same entries
pub same_lists : (x y : Exponents) → length x ≡ length y → ((i : ℕ) → entry x i ≡ entry y i) → x ≡ y
same_lists [] [] e h = refl
same_lists [] (b ∷ y) e h = absurd (omega arith)
same_lists (a ∷ x) [] e h = absurd (omega arith)
same_lists (a ∷ x) (b ∷ y) e h = ap (λ c. c ∷ x) (h 0) ∙ ap (λ z. b ∷ z) (same_lists x y (omega arith) (λ i. h (suc i)))

-- what the common multiple is made of: u, where x^u h is a multiple of the least one, x^l h
pub over_join : (h k u v l : Exponents) → same (plus u h) (plus v k) ≡ true → same (plus l h) (join h k) ≡ true →
    same u (plus (minus (plus u h) (join h k)) l) ≡ true
over_join h k u v l s t = same_by_entries u (plus (minus (plus u h) (join h k)) l)
    (λ i. omega (
      arith,
      entry-plus u h i,
      entry-plus v k i,
      entries_same (plus u h) (plus v k) s i,
      entry-plus l h i,
      entries_same (plus l h) (join h k) t i,
      entry-plus (minus (plus u h) (join h k)) l i,
      entry-minus (plus u h) (join h k) i,
      entry-join h k i,
    ))

pub over_join_right : (h k u v r : Exponents) → same (plus u h) (plus v k) ≡ true → same (plus r k) (join h k) ≡ true →
    same v (plus (minus (plus u h) (join h k)) r) ≡ true
over_join_right h k u v r s t = same_by_entries v (plus (minus (plus u h) (join h k)) r)
    (λ i. omega (
      arith,
      entry-plus u h i,
      entry-plus v k i,
      entries_same (plus u h) (plus v k) s i,
      entry-plus r k i,
      entries_same (plus r k) (join h k) t i,
      entry-plus (minus (plus u h) (join h k)) r i,
      entry-minus (plus u h) (join h k) i,
      entry-join h k i,
    ))

pub cancel : (z x y : Exponents) → same (plus x z) (plus y z) ≡ true → same x y ≡ true
cancel z x y h = same_by_entries x y (λ i. omega (arith, entries_same (plus x z) (plus y z) h i, entry-plus x z i, entry-plus y z i))

-- the least common multiple of coprime ones is the product
pub join-coprime : (h k : Exponents) → AreCoprime h k → same (plus k h) (join h k) ≡ true
join-coprime h k c = same_by_entries (plus k h) (join h k) (λ i. at i (c i))
  where
    at : (i : ℕ) → (entry h i ≡ 0) ⊎ (entry k i ≡ 0) → entry (plus k h) i ≡ entry (join h k) i
    at i (inl e) = omega (arith, entry-plus k h i, entry-join h k i, e)
    at i (inr e) = omega (arith, entry-plus k h i, entry-join h k i, e)

pub join_divides : (h k u v : Exponents) → same (plus u h) (plus v k) ≡ true → same (plus u h) (plus (minus (plus u h) (join h k)) (join h k)) ≡ true
join_divides h k u v s = same_by_entries (plus u h) (plus (minus (plus u h) (join h k)) (join h k))
    (λ i. omega (
      arith,
      entry-plus u h i,
      entry-plus v k i,
      entries_same (plus u h) (plus v k) s i,
      entry-plus (minus (plus u h) (join h k)) (join h k) i,
      entry-minus (plus u h) (join h k) i,
      entry-join h k i,
    ))

-- the least common multiple is one
pub minus_left : (h k : Exponents) → same (plus (minus (join h k) h) h) (join h k) ≡ true
minus_left h k = same_by_entries (plus (minus (join h k) h) h) (join h k) (λ i. omega (
  arith,
  entry-plus (minus (join h k) h) h i,
  entry-minus (join h k) h i,
  entry-join h k i,
))

pub minus_right : (h k : Exponents) → same (plus (minus (join h k) k) k) (join h k) ≡ true
minus_right h k = same_by_entries (plus (minus (join h k) k) k) (join h k) (λ i. omega (
  arith,
  entry-plus (minus (join h k) k) k i,
  entry-minus (join h k) k i,
  entry-join h k i,
))
