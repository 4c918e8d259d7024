-- Signs and order of products of whole numbers.
-- To cite: 0≤-*ℤ, 0<-*ℤ, <0-*ℤ, the cancellations of a positive factor, zero_of_*ℤ, ≤ℤ-*ℤ, <ℤ-*ℤ.
use Rattle.std.proofs.Common.{◌≡◌, ◌≢◌, ◌*◌, ◌<◌, ℕ, zero, suc, ℤ, pos, negsuc, ◌-ℤ◌, ◌*ℤ◌, ◌<ℤ◌, ◌≤ℤ◌, unsigned_abs, arith, ◌⊎◌, inl, inr, refl}
use Rattle.std.proofs.lemmas.Int.{ints}
use Rattle.gf_int_theory.proofs.RingLaws.{*ℤ--ℤ}

-- ---- which sign a number has

-- negative, zero or positive
pub data IsSigned (x : ℤ) : Type 0 where
  negative : x <ℤ pos 0 → IsSigned x
  none : x ≡ pos 0 → IsSigned x
  positive : pos 0 <ℤ x → IsSigned x

-- each number is one of these
pub sign_of : (x : ℤ) → IsSigned x
sign_of (pos zero) = none (omega (arith, ints))
sign_of (pos (suc n)) = positive (omega (arith, ints))
sign_of (negsuc n) = negative (omega (arith, ints))

-- two numbers are equal, or they aren't
pub equal_or_not : (x y : ℤ) → (x ≡ y) ⊎ (x ≡ y → ⊥)
equal_or_not x y = elim (sign_of (x -ℤ y)) [
  | none g ↦ inl (omega (arith, ints, g))
  | positive g ↦ inr (λ e. omega (arith, ints, g, e))
  | negative g ↦ inr (λ e. omega (arith, ints, g, e))
]

-- ---- zero and signs

-- each number is zero or isn't
pub zero_or_not : (x : ℤ) → (x ≡ pos 0) ⊎ (x ≢ pos 0)
zero_or_not (pos zero) = inl refl
zero_or_not (pos (suc n)) = inr (λ e. absurd (omega (arith, ints, e)))
zero_or_not (negsuc n) = inr (λ e. absurd (omega (arith, ints, e)))

-- a positive number isn't negative
pub not_negative : (x : ℤ) → pos 0 <ℤ x → pos 0 ≤ℤ x
not_negative x h = omega (arith, ints)

-- nor zero
pub positive_not_zero : (x : ℤ) → pos 0 <ℤ x → x ≢ pos 0
positive_not_zero x h e = absurd (omega (arith, ints))

-- a number that is neither negative nor zero is positive
pub above_zero : (x : ℤ) → pos 0 ≤ℤ x → x ≢ pos 0 → pos 0 <ℤ x
above_zero (pos zero) h n = absurd (n refl)
above_zero (pos (suc k)) h n = omega (arith, ints)
above_zero (negsuc k) h n = absurd (omega (arith, ints))

-- a number that isn't zero has a positive size
pub abs_positive : (x : ℤ) → x ≢ pos 0 → 0 < unsigned_abs x
abs_positive (pos zero) n = absurd (n refl)
abs_positive (pos (suc k)) n = omega arith
abs_positive (negsuc k) n = omega arith

-- a square isn't negative
pub square_not_negative : (z : ℤ) → pos 0 ≤ℤ (z *ℤ z)
square_not_negative (pos n) = omega (arith, ints)
square_not_negative (negsuc n) = omega (arith, ints)

-- ---- signs of products

-- a product of numbers that aren't negative isn't negative
pub 0≤-*ℤ : (a b : ℤ) → pos 0 ≤ℤ a → pos 0 ≤ℤ b → pos 0 ≤ℤ (a *ℤ b)
0≤-*ℤ (pos a) (pos b) h k = omega (arith, ints)
0≤-*ℤ (pos a) (negsuc b) h k = absurd (omega (arith, ints))
0≤-*ℤ (negsuc a) b h k = absurd (omega (arith, ints))

pub mul_positive : (a b : ℕ) → 0 < a → 0 < b → 0 < a * b
mul_positive a b h k = grind arith

-- a product of positive numbers is positive
pub 0<-*ℤ : (a b : ℤ) → pos 0 <ℤ a → pos 0 <ℤ b → pos 0 <ℤ (a *ℤ b)
0<-*ℤ (pos a) (pos b) h k = let p : 0 < a = omega (arith, ints) in let q : 0 < b = omega (arith, ints) in let r : 0 < a * b =
    mul_positive a b p q in omega (arith, ints)
0<-*ℤ (pos a) (negsuc b) h k = absurd (omega (arith, ints))
0<-*ℤ (negsuc a) b h k = absurd (omega (arith, ints))

-- a positive number times a negative one is negative
pub <0-*ℤ : (a b : ℤ) → pos 0 <ℤ a → b <ℤ pos 0 → (a *ℤ b) <ℤ pos 0
<0-*ℤ (pos (suc a)) (negsuc b) h k = omega (arith, ints)
<0-*ℤ (pos zero) b h k = absurd (omega (arith, ints))
<0-*ℤ (pos (suc a)) (pos b) h k = absurd (omega (arith, ints))
<0-*ℤ (negsuc a) b h k = absurd (omega (arith, ints))

-- a multiple of zero is zero
pub zero_product : (a x : ℤ) → x ≡ pos 0 → a *ℤ x ≡ pos 0
zero_product a x e = rw e (omega (arith, ints))

-- ---- a positive factor is cancelled

-- of a product that isn't negative
pub 0≤-cancel : (a x : ℤ) → pos 0 <ℤ a → pos 0 ≤ℤ (a *ℤ x) → pos 0 ≤ℤ x
0≤-cancel a x h k = elim (sign_of x) [
  | negative s ↦ let p : (a *ℤ x) <ℤ pos 0 = <0-*ℤ a x h s in absurd (omega (arith, ints))
  | none e ↦ omega (arith, ints)
  | positive s ↦ omega (arith, ints)
]

-- of a positive product
pub 0<-cancel : (a x : ℤ) → pos 0 <ℤ a → pos 0 <ℤ (a *ℤ x) → pos 0 <ℤ x
0<-cancel a x h k = elim (sign_of x) [
  | negative s ↦ let p : (a *ℤ x) <ℤ pos 0 = <0-*ℤ a x h s in absurd (omega (arith, ints))
  | none e ↦ let p : a *ℤ x ≡ pos 0 = zero_product a x e in absurd (omega (arith, ints))
  | positive s ↦ s
]

-- of a negative product
pub <0-cancel : (a x : ℤ) → pos 0 <ℤ a → (a *ℤ x) <ℤ pos 0 → x <ℤ pos 0
<0-cancel a x h k = elim (sign_of x) [
  | negative s ↦ s
  | none e ↦ let p : a *ℤ x ≡ pos 0 = zero_product a x e in absurd (omega (arith, ints))
  | positive s ↦ let p : pos 0 <ℤ (a *ℤ x) = 0<-*ℤ a x h s in absurd (omega (arith, ints))
]

-- of a product that is zero
pub zero-cancel : (a x : ℤ) → pos 0 <ℤ a → a *ℤ x ≡ pos 0 → x ≡ pos 0
zero-cancel a x h k = elim (sign_of x) [
  | negative s ↦ let p : (a *ℤ x) <ℤ pos 0 = <0-*ℤ a x h s in absurd (omega (arith, ints))
  | none e ↦ e
  | positive s ↦ let p : pos 0 <ℤ (a *ℤ x) = 0<-*ℤ a x h s in absurd (omega (arith, ints))
]

-- there are no zero divisors
pub zero_of_*ℤ : (a b : ℤ) → a *ℤ b ≡ pos 0 → (a ≡ pos 0) ⊎ (b ≡ pos 0)
zero_of_*ℤ (pos zero) b e = inl refl
zero_of_*ℤ (pos (suc a)) b e = inr (zero-cancel (pos (suc a)) b (omega (arith, ints)) e)
zero_of_*ℤ (negsuc a) (pos zero) e = inr refl
zero_of_*ℤ (negsuc a) (pos (suc b)) e = absurd (omega (arith, ints))
zero_of_*ℤ (negsuc a) (negsuc b) e = absurd (omega (arith, ints))

-- ---- order of products

-- a factor that isn't negative keeps the order
pub ≤ℤ-*ℤ : (k a b : ℤ) → pos 0 ≤ℤ k → a ≤ℤ b → (k *ℤ a) ≤ℤ (k *ℤ b)
≤ℤ-*ℤ k a b h l = let p : pos 0 ≤ℤ (k *ℤ (b -ℤ a)) = 0≤-*ℤ k (b -ℤ a) h (omega (arith, ints)) in omega (arith, ints, p, *ℤ--ℤ k b a)
