-- The laws of this crate, each a statement that a function of `src/laws.rt` ensures.
use Rattle.std.specs.Prelude.{◌≡◌, ◌*◌, ◌<◌, ℕ, List, ℤ, pos}
use Rattle.std.specs.Int.{IsGcd, ◌∣◌}
use Rattle.gf_int_theory.specs.Content.{IsContent, IsPrimitive, scaled, quotients}

-- Euclid's lemma: a number that divides b * c, and is coprime to b, divides c
abbrev pub EuclidsLemma : Type 0
EuclidsLemma = (a b c : ℕ) → IsGcd a b 1 → a ∣ b * c → a ∣ c

-- p/q and r/s in lowest terms, equal crosswise, are the same two numbers
abbrev pub LowestTermsAreUnique : Type 0
LowestTermsAreUnique = (p q r s : ℕ) → IsGcd p q 1 → IsGcd r s 1 → p * s ≡ r * q → (p ≡ r) × (q ≡ s)

-- two numbers divided by their greatest common divisor are coprime
abbrev pub QuotientsAreCoprime : Type 0
QuotientsAreCoprime = (a b g x y : ℕ) → IsGcd a b g → 0 < g → a ≡ g * x → b ≡ g * y → IsGcd x y 1

-- a list has a content
abbrev pub ContentExists : Type 0
ContentExists = (xs : List ℤ) → (c : ℕ) × IsContent xs c

-- and it has only one
abbrev pub ContentIsUnique : Type 0
ContentIsUnique = (xs : List ℤ) (c d : ℕ) → IsContent xs c → IsContent xs d → c ≡ d

-- division by the content loses nothing, and leaves a primitive list
abbrev pub DivisionByContent : Type 0
DivisionByContent = (xs : List ℤ) (c : ℕ) → IsContent xs c → (scaled (pos c) (quotients (pos c) xs) ≡ xs) × IsPrimitive (quotients (pos c) xs)
