-- The greatest common divisor, what coprime numbers divide, and lowest terms.
-- `gcd` counts Euclid's steps; what it means is std's `IsGcd`, which `gcd-is` shows of it. The laws stand here
-- since the fields of a fraction are made of them. Source: Euclid, Elements, book 7, propositions 2 and 30.
use Rattle.std.specs.Int.{IsGcd, ◌∣◌}
use Rattle.std.proofs.Common.{◌≡◌, ℕ, zero, suc, ◌+◌, ◌*◌, ◌%◌, ◌/◌, ◌<◌, ◌≤◌, arith, sym, refl, ap, ◌∙◌, subst}
use Rattle.std.proofs.Math.Nat.{mod-lt, dvd-mul_left, dvd_antisymm, eq_of_mul-eq-mul_left, mul-one, mul_comm, div-add-mod, pos_of_dvd_of_pos}
use Rattle.std.proofs.lemmas.Nat.Gcd.{IsGcd-from_zero, IsGcd-from_mod, IsGcd-swap, dvd-zero, same_from_IsGcd}
use Rattle.std.proofs.lemmas.Nat.{mod-mul-add}

-- ---- the function

-- what Euclid's steps come to, at most k of them
abbrev pub gcd_within : ℕ → ℕ → ℕ → ℕ
gcd_within zero a b = a
gcd_within (suc k) a zero = a
gcd_within (suc k) a (suc b) = gcd_within k (suc b) (a % suc b)

-- the greatest common divisor; of 0 and 0 it is 0
unfoldable pub gcd : ℕ → ℕ → ℕ
gcd a b = gcd_within b a b

step_falls : (a b k : ℕ) → suc b ≤ suc k → a % suc b ≤ k
step_falls a b k h = omega arith

gcd_within-is : (k a b : ℕ) → b ≤ k → IsGcd a b (gcd_within k a b)
gcd_within-is zero a b h = IsGcd-from_zero a b (omega arith)
gcd_within-is (suc k) a zero h = IsGcd-from_zero a 0 refl
gcd_within-is (suc k) a (suc b) h = IsGcd-from_mod a (suc b) _ (gcd_within-is k (suc b) (a % suc b) (step_falls a b k h))

-- it divides both, and each number that divides both divides it
pub gcd-is : (a b : ℕ) → IsGcd a b (gcd a b)
unfolding gcd
gcd-is a b = gcd_within-is b a b (omega arith)

-- it is the only such number
pub gcd-same : (a b g : ℕ) → IsGcd a b g → g ≡ gcd a b
gcd-same a b g h = same_from_IsGcd a b g (gcd a b) h (gcd-is a b)

-- it is positive where the second number is
pub gcd-positive : (a b : ℕ) → 0 < b → 0 < gcd a b
gcd-positive a b h = pos_of_dvd_of_pos (gcd-is a b).1 h

-- ---- a common factor comes out

mod-scaled : (c a b : ℕ) → 0 < c → 0 < b → (c * a) % (c * b) ≡ c * (a % b)
mod-scaled c a b h k =
    let e : a / b * (c * b) + c * (a % b) ≡ c * a = omega (arith, ap (λ x. c * x) (div-add-mod a b)) in
    let less : c * (a % b) < c * b = grind (arith, mod-lt) in
    rw (← e) (mod-mul-add (a / b) (c * b) (c * (a % b)) less)

gcd_within-scaled : (c k a b : ℕ) → 0 < c → b ≤ k → IsGcd (c * a) (c * b) (c * gcd_within k a b)
gcd_within-scaled c zero a b p h = IsGcd-from_zero (c * a) (c * b) (let e : b ≡ 0 = omega arith in rw e (omega arith))
gcd_within-scaled c (suc k) a zero p h = IsGcd-from_zero (c * a) (c * 0) (omega arith)
gcd_within-scaled c (suc k) a (suc b) p h =
    let e : (c * a) % (c * suc b) ≡ c * (a % suc b) = mod-scaled c a (suc b) p (omega arith) in
    IsGcd-from_mod (c * a) (c * suc b) _ (rw e (gcd_within-scaled c k (suc b) (a % suc b) p (step_falls a b k h)))

-- the greatest common divisor of c * a and c * b is c times that of a and b
pub gcd-scaled : (c a b g : ℕ) → 0 < c → IsGcd a b g → IsGcd (c * a) (c * b) (c * g)
gcd-scaled c a b g p h =
    let e : gcd_within b a b ≡ g = same_from_IsGcd a b _ g (gcd_within-is b a b (omega arith)) h in
    subst (λ x. IsGcd (c * a) (c * b) (c * x)) e (gcd_within-scaled c b a b p (omega arith))

-- ---- coprime numbers and lowest terms

-- Euclid's lemma: a number that divides a product, and is coprime to a factor, divides the other
pub coprime-dvd : (a b c : ℕ) → IsGcd a b 1 → a ∣ b * c → a ∣ c
coprime-dvd a b zero one h = dvd-zero a
coprime-dvd a b (suc c) one h =
    let scaled : IsGcd (suc c * a) (suc c * b) (suc c * 1) = gcd-scaled (suc c) a b 1 (omega arith) one in
    let d : a ∣ suc c * 1 = scaled.2 a (dvd-mul_left a (suc c)) (subst (λ x. a ∣ x) (mul_comm b (suc c)) h) in
    subst (λ x. a ∣ x) (mul-one (suc c)) d

-- two fractions in lowest terms that are equal crosswise have the same denominator
pub lowest-denominator : (p q r s : ℕ) → IsGcd p q 1 → IsGcd r s 1 → p * s ≡ r * q → q ≡ s
lowest-denominator p q r s one two e =
    dvd_antisymm
    (coprime-dvd q p s (IsGcd-swap p q 1 one) (subst (λ x. q ∣ x) (sym e) (dvd-mul_left q r)))
    (coprime-dvd s r q (IsGcd-swap r s 1 two) (subst (λ x. s ∣ x) e (dvd-mul_left s p)))

-- and the same numerator
pub lowest-numerator : (p q r s : ℕ) → IsGcd p q 1 → IsGcd r s 1 → p * s ≡ r * q → p ≡ r
lowest-numerator p q r s one two e =
    dvd_antisymm
    (coprime-dvd p q r one (subst (λ x. p ∣ x) (e ∙ mul_comm r q) (subst (λ x. p ∣ x) (mul_comm s p) (dvd-mul_left p s))))
    (coprime-dvd r s p two (subst (λ x. r ∣ x) (sym e ∙ mul_comm p s) (subst (λ x. r ∣ x) (mul_comm q r) (dvd-mul_left r q))))

-- the quotients of two numbers by their greatest common divisor are coprime
pub lowest-quotients : (a b g x y : ℕ) → IsGcd a b g → 0 < g → a ≡ g * x → b ≡ g * y → IsGcd x y 1
lowest-quotients a b g x y h p ex ey =
    let k : IsGcd (g * x) (g * y) (g * gcd_within y x y) = gcd_within-scaled g y x y p (omega arith) in
    let k' : IsGcd a b (g * gcd_within y x y) =
    subst (λ z. IsGcd z b (g * gcd_within y x y)) (sym ex) (subst (λ z. IsGcd (g * x) z (g * gcd_within y x y)) (sym ey) k) in
    let e : g * gcd_within y x y ≡ g = same_from_IsGcd a b _ _ k' h in
    let one : gcd_within y x y ≡ 1 = eq_of_mul-eq-mul_left g p _ _ (e ∙ sym (mul-one g)) in
    subst (λ z. IsGcd x y z) one (gcd_within-is y x y (omega arith))
