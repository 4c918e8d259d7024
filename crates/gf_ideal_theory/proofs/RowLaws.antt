-- Comparisons by one weight after another, and the one weight that compares alike inside a box of exponents.
-- To cite: lighter-by_rows; the rows for lex and for revlex, lex-by_rows and revlex-by_rows; weight-both, weight-multiple.
use Rattle.std.proofs.Common.{◌≡◌, ◌⊎◌, ℕ, zero, suc, ◌+◌, ◌-◌, ◌*◌, ◌<◌, ◌≤◌, List, [], ◌∷◌, arith, refl, sym, ap, ◌∙◌, subst, inl, inr}
use Rattle.std.proofs.Math.Nat.{mul-le-mul_left}
use Rattle.std.proofs.lemmas.Bool.{cases_lt}
use Rattle.gf_exponents_theory.specs.Exponents.{Exponents, entry, weight}
use Rattle.gf_exponents_theory.specs.Orders.{lighter}
use Rattle.gf_ideal_theory.specs.Marks.{IsPositive}

-- the first row at which the weights differ decides
abbrev pub below_by : List (List ℕ) → Exponents → Exponents → Type 0
below_by [] x y = ⊥
below_by (u ∷ us) x y = (weight u x < weight u y) ⊎ ((weight u x ≡ weight u y) × below_by us x y)

-- each exponent is at most k
abbrev pub IsBoxed : ℕ → Exponents → Type 0
IsBoxed k x = (i : ℕ) → entry x i ≤ k

-- ---- sums and multiples of weights

-- the sum of the weights
abbrev pub total : List ℕ → ℕ
total [] = 0
total (w ∷ ws) = w + total ws

-- n times the weights
abbrev pub multiple : ℕ → List ℕ → List ℕ
multiple n [] = []
multiple n (w ∷ ws) = n * w ∷ multiple n ws

-- the sum of two
abbrev pub both_of : List ℕ → List ℕ → List ℕ
both_of [] ws = ws
both_of (v ∷ vs) [] = v ∷ vs
both_of (v ∷ vs) (w ∷ ws) = (v + w) ∷ both_of vs ws

-- their weight
pub weight-multiple : (n : ℕ) (w : List ℕ) (x : Exponents) → weight (multiple n w) x ≡ n * weight w x
weight-multiple n [] x = omega arith
weight-multiple n (w ∷ ws) [] = omega arith
weight-multiple n (w ∷ ws) (a ∷ x) = omega (arith, weight-multiple n ws x)

-- its weight
pub weight-both : (v w : List ℕ) (x : Exponents) → weight (both_of v w) x ≡ weight v x + weight w x
weight-both [] w x = omega arith
weight-both (v ∷ vs) [] x = omega arith
weight-both (v ∷ vs) (w ∷ ws) [] = refl
weight-both (v ∷ vs) (w ∷ ws) (a ∷ x) = omega (arith, weight-both vs ws x)

-- its entries
pub entry-both : (v w : List ℕ) (i : ℕ) → entry (both_of v w) i ≡ entry v i + entry w i
entry-both [] w i = omega arith
entry-both (v ∷ vs) [] zero = omega arith
entry-both (v ∷ vs) [] (suc i) = omega arith
entry-both (v ∷ vs) (w ∷ ws) zero = refl
entry-both (v ∷ vs) (w ∷ ws) (suc i) = entry-both vs ws i

-- weights in a box are bounded
pub weight-boxed : (k : ℕ) (w : List ℕ) (x : Exponents) → IsBoxed k x → weight w x ≤ total w * k
weight-boxed k [] x h = omega arith
weight-boxed k (w ∷ ws) [] h = omega arith
weight-boxed k (w ∷ ws) (a ∷ x) h = omega (arith, mul-le-mul_left w (h 0), weight-boxed k ws x (λ i. h (suc i)))

-- ---- one weight for all rows

-- n times a smaller number is smaller by n
pub times_up : (n a b : ℕ) → a < b → n * a + n ≤ n * b
times_up n a b l = omega (arith, mul-le-mul_left n l)

-- each row counts for more than all rows after it can
abbrev pub weights_for : ℕ → List (List ℕ) → List ℕ
weights_for k [] = []
weights_for k (u ∷ us) = both_of (multiple (suc (total (weights_for k us) * k)) u) (weights_for k us)

-- inside the box it compares as the rows do
pub lighter-by_rows : (k : ℕ) (us : List (List ℕ)) (x y : Exponents) → IsBoxed k x → below_by us x y →
    lighter (weights_for k us) x y
lighter-by_rows k [] x y p h = elim h [ ]
lighter-by_rows k (u ∷ us) x y p h = at h (lighter-by_rows k us x y p)
  where
    ws : List ℕ
    ws = weights_for k us

    at : below_by (u ∷ us) x y → (below_by us x y → lighter ws x y) → lighter (weights_for k (u ∷ us)) x y
    at (inl l) r =
        let n = suc (total ws * k) in
        omega (
          arith,
          weight-both (multiple n u) ws x,
          weight-both (multiple n u) ws y,
          weight-multiple n u x,
          weight-multiple n u y,
          times_up n (weight u x) (weight u y) l,
          weight-boxed k ws x p,
        )
    at (inr e) r =
        let n = suc (total ws * k) in
        omega (
          arith,
          weight-both (multiple n u) ws x,
          weight-both (multiple n u) ws y,
          weight-multiple n u x,
          weight-multiple n u y,
          ap (λ (z : ℕ). n * z) e.0,
          r e.1,
        )

-- ---- lex: one variable after another

-- the weight that counts variable j alone
abbrev pub unit : ℕ → List ℕ
unit zero = 1 ∷ []
unit (suc j) = 0 ∷ unit j

weight-unit : (j : ℕ) (x : Exponents) → weight (unit j) x ≡ entry x j
weight-unit zero [] = refl
weight-unit zero (a ∷ x) = omega arith
weight-unit (suc j) [] = refl
weight-unit (suc j) (a ∷ x) = omega (arith, weight-unit j x)

-- variable j, and the m - 1 after it
abbrev pub lex_rows : ℕ → ℕ → List (List ℕ)
lex_rows j zero = []
lex_rows j (suc m) = unit j ∷ lex_rows (suc j) m

-- the first variable that differs decides
pub lex-by_rows : (j m : ℕ) (x y : Exponents) (at : ℕ) → j ≤ at → at < j + m →
    ((i : ℕ) → i < at → entry x i ≡ entry y i) → entry x at < entry y at → below_by (lex_rows j m) x y
lex-by_rows j zero x y at p q b h = absurd (omega arith)
lex-by_rows j (suc m) x y at p q b h = elim (cases_lt j at) [
  | inl l ↦ inr (weight-unit j x ∙ b j l ∙ sym (weight-unit j y), lex-by_rows (suc j) m x y at (omega arith) (omega arith) b h)
  | inr g ↦ let e : j ≡ at = omega arith in inl (omega (arith, weight-unit j x, weight-unit j y, subst (λ (i : ℕ). entry x i < entry y i) (sym e) h))
]

-- ---- revlex: the last variable first, among monomials of one weight

-- u, with 1 less at variable j
abbrev pub lowered : ℕ → List ℕ → List ℕ
lowered j [] = []
lowered zero (a ∷ u) = (a - 1) ∷ u
lowered (suc j) (a ∷ u) = a ∷ lowered j u

weight-lowered : (j : ℕ) (u : List ℕ) (x : Exponents) → 1 ≤ entry u j → weight (lowered j u) x + entry x j ≡ weight u x
weight-lowered j [] x h = absurd (omega arith)
weight-lowered zero (a ∷ u) [] h = refl
weight-lowered zero (a ∷ u) (b ∷ x) h = let e : (a - 1) * b + b ≡ a * b = back (a - 1) b ∙ ap (λ (z : ℕ). z * b) (one_more a h) in omega (arith, e)
  where
    back : (c b : ℕ) → c * b + b ≡ suc c * b
    back c b = omega arith

    one_more : (a : ℕ) → 1 ≤ a → suc (a - 1) ≡ a
    one_more a h = omega arith
weight-lowered (suc j) (a ∷ u) [] h = refl
weight-lowered (suc j) (a ∷ u) (b ∷ x) h = omega (arith, weight-lowered j u x h)

-- the last of the first m variables, then those before it
abbrev pub revlex_rows : ℕ → List ℕ → List (List ℕ)
revlex_rows zero u = []
revlex_rows (suc m) u = lowered m u ∷ revlex_rows m u

-- the last variable that differs decides
pub revlex-by_rows : (m : ℕ) (u : List ℕ) (x y : Exponents) (at : ℕ) → IsPositive m u → weight u x ≡ weight u y →
    at < m → ((i : ℕ) → at < i → entry x i ≡ entry y i) → entry y at < entry x at → below_by (revlex_rows m u) x y
revlex-by_rows zero u x y at p e l b h = absurd (omega arith)
revlex-by_rows (suc m) u x y at p e l b h = elim (cases_lt at m) [
  | inl q ↦ inr (
    omega (arith, weight-lowered m u x (p m (omega arith)), weight-lowered m u y (p m (omega arith)), e, b m q),
    revlex-by_rows m u x y at (λ i r. p i (omega arith)) e q b h,
  )
  | inr g ↦ let f : at ≡ m = omega arith in inl (omega (
    arith,
    weight-lowered m u x (p m (omega arith)),
    weight-lowered m u y (p m (omega arith)),
    e,
    subst (λ (i : ℕ). entry y i < entry x i) f h,
  ))
]
