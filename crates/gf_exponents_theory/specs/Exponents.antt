-- Monomials as exponent vectors: products, divisibility, least common multiples, degrees, weights.
-- The first variable comes first, and a variable past the end has exponent 0, so that two lists mean the
-- same monomial where they differ by zeros at the end alone (`same`). No definition needs equal lengths.
-- Laws: proofs/ExponentsLaws.antt, proofs/WeightLaws.antt. Source: Cox, Little, O'Shea, Ideals, Varieties, and Algorithms, 2.2.
use Rattle.std.specs.Prelude.{◌≡◌, ◌⊎◌, ℕ, zero, suc, ◌+◌, ◌-◌, ◌*◌, ◌≤◌, Bool, true, false, ◌&&◌, ◌==◌, List, [], ◌∷◌, max, ℤ, pos, ◌+ℤ◌, ◌*ℤ◌}

-- a monomial: the exponent of each variable
abbrev pub Exponents : Type 0
Exponents = List ℕ

-- the exponent of variable i
abbrev pub entry : Exponents → ℕ → ℕ
entry [] i = 0
entry (a ∷ x) zero = a
entry (a ∷ x) (suc i) = entry x i

-- whether each variable has the same exponent in both
abbrev pub same : Exponents → Exponents → Bool
same [] [] = true
same [] (b ∷ y) = (b == 0) && same [] y
same (a ∷ x) [] = (a == 0) && same x []
same (a ∷ x) (b ∷ y) = (a == b) && same x y

-- no variable past the first n
abbrev pub IsInRing : ℕ → Exponents → Type 0
IsInRing n x = (i : ℕ) → n ≤ i → entry x i ≡ 0

-- ---- products and divisibility

-- the product of two monomials
abbrev pub plus : Exponents → Exponents → Exponents
plus [] y = y
plus (a ∷ x) [] = a ∷ x
plus (a ∷ x) (b ∷ y) = (a + b) ∷ plus x y

-- x divides y: y is some monomial times x
pub record Divides (x y : Exponents) : Type 0 where
  pub rest : Exponents
  pub product : same y (plus rest x) ≡ true

-- y isn't a multiple of x
abbrev pub NoMultiple : Exponents → Exponents → Type 0
NoMultiple x y = (rest : Exponents) → same y (plus x rest) ≡ false

-- the quotient x / y, where y divides x
abbrev pub minus : Exponents → Exponents → Exponents
minus [] y = []
minus (a ∷ x) [] = a ∷ x
minus (a ∷ x) (b ∷ y) = (a - b) ∷ minus x y

-- the least common multiple
abbrev pub join : Exponents → Exponents → Exponents
join [] y = y
join (a ∷ x) [] = a ∷ x
join (a ∷ x) (b ∷ y) = max a b ∷ join x y

-- no variable occurs in both
abbrev pub AreCoprime : Exponents → Exponents → Type 0
AreCoprime x y = (i : ℕ) → (entry x i ≡ 0) ⊎ (entry y i ≡ 0)

-- ---- degrees and weights

-- the total degree
abbrev pub degree : Exponents → ℕ
degree [] = 0
degree (a ∷ x) = a + degree x

-- the weight of x by w: the sum of the products entry by entry
abbrev pub weight : List ℕ → Exponents → ℕ
weight [] x = 0
weight (w ∷ ws) [] = 0
weight (w ∷ ws) (a ∷ x) = w * a + weight ws x

-- the weight of x by whole numbers w, which may be negative: the same sum
abbrev pub whole_weight : List ℤ → Exponents → ℤ
whole_weight [] x = pos 0
whole_weight (w ∷ ws) [] = pos 0
whole_weight (w ∷ ws) (a ∷ x) = w *ℤ pos a +ℤ whole_weight ws x
