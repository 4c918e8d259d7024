-- Which sums and products are in lowest terms as they come, and what a sum has to be reduced by.
-- A product of fractions whose factors were cancelled crosswise is in lowest terms. A sum has only divisors of the
-- denominators' common divisor to lose. Source: Knuth, The Art of Computer Programming, volume 2, 4.5.1.
use Rattle.std.specs.Int.{IsGcd, ◌∣◌}
use Rattle.std.specs.Int.RustNames.{unsigned_abs, int_div}
use Rattle.std.proofs.Common.{◌≡◌, ℕ, suc, ◌+◌, ◌*◌, ◌/◌, ◌<◌, ◌≤◌, ℤ, pos, negsuc, ◌+ℤ◌, ◌*ℤ◌, ◌⊎◌, arith, sym, ap, ap₂, ◌∙◌, subst, inl, inr}
use Rattle.std.proofs.lemmas.Int.{ints, unsigned_abs-mul}
use Rattle.std.proofs.lemmas.Nat.Gcd.{dvd_trans, dvd_refl, IsGcd-swap}
use Rattle.std.proofs.Math.Nat.{one-dvd, dvd-add, dvd-add_iff_left, dvd-mul_left, mul-div_cancel', mul_comm}
use Rattle.std.proofs.lemmas.Bool.{cases_lt}
use Rattle.std.proofs.Math.IntN.{+ℤ_comm}
use Rattle.gf_int_theory.specs.Gcd.{gcd, gcd-is, gcd-same, gcd-positive, coprime-dvd, lowest-quotients}
use Rattle.gf_frac.specs.Fraction.{abs-div}
use Rattle.gf_frac.specs.Fits.{sum_numerator, sum_denominator, product_numerator, product_denominator}

-- ---- coprime numbers

-- divisors of coprime numbers are coprime
coprime_divisors : (a b x y : ℕ) → IsGcd a b 1 → x ∣ a → y ∣ b → IsGcd x y 1
coprime_divisors a b x y h p q = (one-dvd x, one-dvd y, λ d k l. h.2 d (dvd_trans d k p) (dvd_trans d l q))

-- a number coprime to two others is coprime to their product
coprime-* : (x s q : ℕ) → IsGcd x s 1 → IsGcd x q 1 → IsGcd x (s * q) 1
coprime-* x s q h k = (one-dvd x, one-dvd (s * q), λ e p r. k.2 e p (coprime-dvd e s q (coprime_divisors x s e s h p (dvd_refl s)) r))

coprime_products : (p q r s : ℕ) → IsGcd p q 1 → IsGcd r s 1 → IsGcd p s 1 → IsGcd r q 1 → IsGcd (p * r) (s * q) 1
coprime_products p q r s pq rs ps rq =
    IsGcd-swap (s * q) (p * r) 1
    (coprime-* (s * q) p r (IsGcd-swap p (s * q) 1 (coprime-* p s q ps pq)) (IsGcd-swap r (s * q) 1 (coprime-* r s q rs rq)))

quotient-dvd : (a g : ℕ) → g ∣ a → (a / g) ∣ a
quotient-dvd a g h = subst (λ z. (a / g) ∣ z) (mul-div_cancel' g h) (dvd-mul_left (a / g) g)

coprime_quotients : (a d : ℕ) → 0 < d → IsGcd (a / gcd a d) (d / gcd a d) 1
coprime_quotients a d h = lowest-quotients a d (gcd a d) _ _ (gcd-is a d) (gcd-positive a d h) (sym (mul-div_cancel' _ (gcd-is a d).0))
    (sym (mul-div_cancel' _ (gcd-is a d).1))

-- ---- products

crosswise : (p b r d : ℕ) → 0 < b → 0 < d → IsGcd p b 1 → IsGcd r d 1 → IsGcd ((p / gcd p d) * (r / gcd r b)) ((b / gcd r b) * (d / gcd p d)) 1
crosswise p b r d hb hd one two =
    coprime_products (p / gcd p d) (d / gcd p d) (r / gcd r b) (b / gcd r b)
    (coprime_quotients p d hd) (coprime_quotients r b hb)
    (coprime_divisors p b _ _ one (quotient-dvd p _ (gcd-is p d).0) (quotient-dvd b _ (gcd-is r b).1))
    (coprime_divisors r d _ _ two (quotient-dvd r _ (gcd-is r b).0) (quotient-dvd d _ (gcd-is p d).1))

-- a product whose factors were cancelled crosswise is in lowest terms
pub lowest_product : (a c : ℤ) (b d : ℕ) → 0 < b → 0 < d → IsGcd (unsigned_abs a) b 1 → IsGcd (unsigned_abs c) d 1 →
    IsGcd (unsigned_abs (product_numerator a b c d)) (product_denominator a b c d) 1
lowest_product a c b d hb hd one two =
    let x = int_div a (pos (gcd (unsigned_abs a) d)) in
    let y = int_div c (pos (gcd (unsigned_abs c) b)) in
    let e : unsigned_abs (x *ℤ y) ≡ (unsigned_abs a / gcd (unsigned_abs a) d) * (unsigned_abs c / gcd (unsigned_abs c) b) =
    unsigned_abs-mul x y ∙ ap₂ (λ m n. m * n) (abs-div a (gcd (unsigned_abs a) d)) (abs-div c (gcd (unsigned_abs c) b)) in
    subst (λ z. IsGcd z (product_denominator a b c d) 1) (sym e) (crosswise (unsigned_abs a) b (unsigned_abs c) d hb hd one two)

-- ---- sums

-- one of three numbers is the sum of the others
abbrev Parted : ℕ → ℕ → ℕ → Type 0
Parted s t r = (r ≡ s + t) ⊎ ((s ≡ r + t) ⊎ (t ≡ r + s))

sizes : (x y : ℤ) → Parted (unsigned_abs (x +ℤ y)) (unsigned_abs y) (unsigned_abs x)
sizes (pos a) (pos b) = inr (inl (omega (arith, ints)))
sizes (negsuc a) (negsuc b) = inr (inl (omega (arith, ints)))
sizes (pos a) (negsuc b) = at (cases_lt a (suc b))
  where
    at : (a < suc b) ⊎ (suc b ≤ a) → Parted (unsigned_abs (pos a +ℤ negsuc b)) (suc b) a
    at (inl h) = inr (inr (omega (arith, ints)))
    at (inr h) = inl (omega (arith, ints))
sizes (negsuc a) (pos b) = at (cases_lt b (suc a))
  where
    at : (b < suc a) ⊎ (suc a ≤ b) → Parted (unsigned_abs (negsuc a +ℤ pos b)) b (suc a)
    at (inl h) = inl (omega (arith, ints))
    at (inr h) = inr (inr (omega (arith, ints)))

parted_dvd : (e s t r : ℕ) → Parted s t r → e ∣ s → e ∣ t → e ∣ r
parted_dvd e s t r (inl h) p q = subst (λ z. e ∣ z) (sym h) (dvd-add e p q)
parted_dvd e s t r (inr (inl h)) p q = (dvd-add_iff_left e q).1 (subst (λ z. e ∣ z) h p)
parted_dvd e s t r (inr (inr h)) p q = (dvd-add_iff_left e p).1 (subst (λ z. e ∣ z) h q)

-- a number that divides a sum and one summand divides the other
summand_dvd : (e : ℕ) (x y : ℤ) → e ∣ unsigned_abs (x +ℤ y) → e ∣ unsigned_abs y → e ∣ unsigned_abs x
summand_dvd e x y p q = parted_dvd e _ _ _ (sizes x y) p q

-- n * s + c * t has no divisor in common with t, where n and s have none
coprime_left : (a c : ℤ) (b s t : ℕ) → IsGcd (unsigned_abs a) b 1 → t ∣ b → IsGcd t s 1 → IsGcd (unsigned_abs (a *ℤ pos s +ℤ c *ℤ pos t)) t 1
coprime_left a c b s t one h two = (
  one-dvd _,
  one-dvd t,
  λ e p q.
      let y : e ∣ unsigned_abs (c *ℤ pos t) = subst (λ z. e ∣ z) (sym (unsigned_abs-mul c (pos t))) (dvd_trans e q (dvd-mul_left t (unsigned_abs c))) in
      let x : e ∣ unsigned_abs a * s = subst (λ z. e ∣ z) (unsigned_abs-mul a (pos s)) (summand_dvd e (a *ℤ pos s) (c *ℤ pos t) p y) in
      let z : e ∣ unsigned_abs a = coprime-dvd e s (unsigned_abs a) (coprime_divisors t s e s two q (dvd_refl s))
      (subst (λ z. e ∣ z) (mul_comm (unsigned_abs a) s) x) in
      one.2 e z (dvd_trans e q h),
)

-- a factor coprime to t takes no part in a common divisor with t
drop_coprime : (t u g : ℕ) → IsGcd t u 1 → gcd t (u * g) ≡ gcd t g
drop_coprime t u g h =
    let k = gcd-is t (u * g) in
    gcd-same t g (gcd t (u * g)) (
      k.0,
      coprime-dvd _ u g (coprime_divisors t u _ u h k.0 (dvd_refl u)) k.1,
      λ d p q. k.2 d p (dvd_trans d q (dvd-mul_left g u)),
    )

regrouped : (g x y b : ℕ) → g * x ≡ b → b * y ≡ (x * y) * g
regrouped g x y b e = rw (← e) (omega arith)

-- the sum has only divisors of the denominators' common divisor to lose
pub sum_common : (a c : ℤ) (b d : ℕ) → 0 < d → IsGcd (unsigned_abs a) b 1 → IsGcd (unsigned_abs c) d 1 →
    gcd (unsigned_abs (sum_numerator a b c d)) (sum_denominator b d) ≡ gcd (unsigned_abs (sum_numerator a b c d)) (gcd b d)
sum_common a c b d hd one two =
    let g = gcd b d in
    let n = sum_numerator a b c d in
    let apart : IsGcd (b / g) (d / g) 1 = coprime_quotients b d hd in
    let left : IsGcd (unsigned_abs n) (b / g) 1 = coprime_left a c b (d / g) (b / g) one (quotient-dvd b g (gcd-is b d).0) apart in
    let turned : IsGcd (unsigned_abs (c *ℤ pos (b / g) +ℤ a *ℤ pos (d / g))) (d / g) 1 =
    coprime_left c a d (b / g) (d / g) two (quotient-dvd d g (gcd-is b d).1) (IsGcd-swap (b / g) (d / g) 1 apart) in
    let right : IsGcd (unsigned_abs n) (d / g) 1 = subst (λ z. IsGcd (unsigned_abs z) (d / g) 1) (+ℤ_comm (c *ℤ pos (b / g)) (a *ℤ pos (d / g))) turned in
    ap (gcd (unsigned_abs n)) (regrouped g (b / g) (d / g) b (mul-div_cancel' g (gcd-is b d).0))
    ∙ drop_coprime (unsigned_abs n) ((b / g) * (d / g)) g (coprime-* (unsigned_abs n) (b / g) (d / g) left right)
