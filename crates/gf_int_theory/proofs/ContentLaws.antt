-- The content of a list, one entry further, and division by it.
-- To cite: IsGcdOfAll-none and IsGcdOfAll_more for a loop over the entries, IsContent-zero and IsContent-positive
-- at its end, IsContent-same, times-quotients, IsPrimitive-quotients, quotients-InRange. The rest are steps.
use Rattle.std.proofs.Common.{◌≡◌, ℕ, zero, suc, ◌+◌, ◌*◌, ◌<◌, ◌≤◌, List, [], ◌∷◌, ◌++◌, length, ℤ, pos, negsuc, ◌*ℤ◌, neg_ℤ, arith, sym, refl, ap, subst}
use Rattle.std.proofs.Common.{take, get_or, unsigned_abs, int_div, ◌⊎◌, inl, inr, ap₂, ◌/◌}
use Rattle.std.specs.Int.{◌∣◌, IsGcd}
use Rattle.std.specs.List.{AllByRecursion}
use Rattle.std.proofs.lemmas.Int.{ints, unsigned_abs-mul}
use Rattle.std.proofs.lemmas.List.{take_more}
use Rattle.std.proofs.lemmas.Nat.Gcd.{dvd_trans, dvd-zero}
use Rattle.std.proofs.Math.Nat.{mul-dvd-mul_left, eq-one_of_dvd-one, dvd_of_mul-dvd-mul_left, mul-div_cancel', div-le_self, eq-zero_of_zero-dvd, dvd_antisymm}
use Rattle.std.proofs.Math.Nat.{one-dvd, zero-div}
use Rattle.gf_int_theory.proofs.RingLaws.{same, dn, dv, dneg, ◌⊗◌}
use Rattle.gf_int_theory.specs.Range.{InRange}
use Rattle.gf_int_theory.specs.Gcd.{gcd, gcd-is, gcd-same}
use Rattle.gf_int_theory.specs.Content.{DividesAll, AllZero, IsGcdOfAll, IsContent, IsPrimitive, scaled, quotients}

-- ---- the greatest common divisor, entry by entry

-- with 1 each number has the common divisor 1
pub gcd-by_one : (n : ℕ) → gcd n 1 ≡ 1
gcd-by_one n = sym (gcd-same n 1 1 (one-dvd n, one-dvd 1, λ d h k. k))

all_snoc : (d : ℕ) (xs : List ℤ) (x : ℤ) → DividesAll d (xs ++ x ∷ []) → DividesAll d xs × (d ∣ unsigned_abs x)
all_snoc d [] x h = (tt, h.0)
all_snoc d (y ∷ xs) x h = let r = all_snoc d xs x h.1 in ((h.0, r.0), r.1)

snoc_all : (d : ℕ) (xs : List ℤ) (x : ℤ) → DividesAll d xs → d ∣ unsigned_abs x → DividesAll d (xs ++ x ∷ [])
snoc_all d [] x h k = (k, tt)
snoc_all d (y ∷ xs) x h k = (h.0, snoc_all d xs x h.1 k)

-- a divisor of a common divisor is one
pub DividesAll_trans : (c d : ℕ) (xs : List ℤ) → c ∣ d → DividesAll d xs → DividesAll c xs
DividesAll_trans c d [] h k = tt
DividesAll_trans c d (x ∷ xs) h k = (dvd_trans c h k.0, DividesAll_trans c d xs h k.1)

-- of no entries it is 0
pub IsGcdOfAll-none : IsGcdOfAll [] 0
IsGcdOfAll-none = record { divides = tt; greatest = λ d a. dvd-zero d }

-- with an entry more at the end
pub IsGcdOfAll-push : (xs : List ℤ) (x : ℤ) (c g : ℕ) → IsGcdOfAll xs c → IsGcd c (unsigned_abs x) g → IsGcdOfAll (xs ++ x ∷ []) g
IsGcdOfAll-push xs x c g h k = record {
  divides = snoc_all g xs x (DividesAll_trans g c xs k.0 h.divides) k.1;
  greatest = λ d a. let s = all_snoc d xs x a in k.2 d (h.greatest d s.0) s.1;
}

-- with an entry more at the front
pub IsGcdOfAll-cons : (x : ℤ) (xs : List ℤ) (c g : ℕ) → IsGcdOfAll xs c → IsGcd c (unsigned_abs x) g → IsGcdOfAll (x ∷ xs) g
IsGcdOfAll-cons x xs c g h k = record {
  divides = (k.1, DividesAll_trans g c xs k.0 h.divides);
  greatest = λ d a. k.2 d (h.greatest d a.1) a.0;
}

-- one entry further into a list
pub IsGcdOfAll_more : (xs : List ℤ) (i c g : ℕ) → i < length xs → IsGcdOfAll (take i xs) c → IsGcd c (unsigned_abs (get_or xs i (pos 0))) g →
    IsGcdOfAll (take (i + 1) xs) g
IsGcdOfAll_more xs i c g h k e = rw (take_more xs i (pos 0) h) (IsGcdOfAll-push (take i xs) _ c g k e)

-- each list has one
pub IsGcdOfAll-exists : (xs : List ℤ) → (g : ℕ) × IsGcdOfAll xs g
IsGcdOfAll-exists [] = (0, IsGcdOfAll-none)
IsGcdOfAll-exists (x ∷ xs) = let r = IsGcdOfAll-exists xs in (gcd r.0 (unsigned_abs x), IsGcdOfAll-cons x xs r.0 _ r.1 (gcd-is _ _))

-- ---- the content

-- a number of size 0 is zero
pub abs_zero : (x : ℤ) → unsigned_abs x ≡ 0 → x ≡ pos 0
abs_zero (pos n) e = ap pos e
abs_zero (negsuc n) e = absurd (omega arith)

all_zero : (xs : List ℤ) → DividesAll 0 xs → AllZero xs
all_zero [] h = tt
all_zero (x ∷ xs) h = (abs_zero x (eq-zero_of_zero-dvd h.0), all_zero xs h.1)

zero_all : (d : ℕ) (xs : List ℤ) → AllZero xs → DividesAll d xs
zero_all d [] h = tt
zero_all d (x ∷ xs) h = (subst (λ z. d ∣ unsigned_abs z) (sym h.0) (dvd-zero d), zero_all d xs h.1)

-- where the greatest common divisor is 0 the content is 1
pub IsContent-zero : (xs : List ℤ) → IsGcdOfAll xs 0 → IsContent xs 1
IsContent-zero xs h = let z = all_zero xs h.divides in record { positive = omega arith; divides = zero_all 1 xs z; greatest = inr (z, refl) }

-- and else it is that divisor
pub IsContent-positive : (xs : List ℤ) (g : ℕ) → IsGcdOfAll xs g → 0 < g → IsContent xs g
IsContent-positive xs g h p = record { positive = p; divides = h.divides; greatest = inl h.greatest }

-- each list has a content
pub IsContent-exists : (xs : List ℤ) → (c : ℕ) × IsContent xs c
IsContent-exists xs = let r = IsGcdOfAll-exists xs in at r.0 r.1
  where
    at : (g : ℕ) → IsGcdOfAll xs g → (c : ℕ) × IsContent xs c
    at zero h = (1, IsContent-zero xs h)
    at (suc g) h = (suc g, IsContent-positive xs (suc g) h (omega arith))

not_greatest : (xs : List ℤ) (c : ℕ) → AllZero xs → 0 < c → ((d : ℕ) → DividesAll d xs → d ∣ c) → ⊥
not_greatest xs c z p h = let e : c ≡ 0 = eq-zero_of_zero-dvd (h 0 (zero_all 0 xs z)) in omega arith

-- and only one
pub IsContent-same : (xs : List ℤ) (c d : ℕ) → IsContent xs c → IsContent xs d → c ≡ d
IsContent-same xs c d h k = at h.greatest k.greatest
  where
    at : (((e : ℕ) → DividesAll e xs → e ∣ c) ⊎ (AllZero xs × (c ≡ 1))) → (((e : ℕ) → DividesAll e xs → e ∣ d) ⊎ (AllZero xs × (d ≡ 1))) → c ≡ d
    at (inl f) (inl g) = dvd_antisymm (g c h.divides) (f d k.divides)
    at (inl f) (inr z) = absurd (not_greatest xs c z.0 h.positive f)
    at (inr z) (inl g) = absurd (not_greatest xs d z.0 k.positive g)
    at (inr y) (inr z) = cc (y.1, z.1)

-- ---- division by the content

neg_exact : (c n m : ℕ) → c * m ≡ suc n → pos c *ℤ neg_ℤ (pos m) ≡ negsuc n
neg_exact c n m e = same (dn c ⊗ dneg (dn m)) (dv (negsuc n)) (omega (arith, e))

-- an exact quotient, times the divisor
pub exact_quotient : (c : ℕ) (x : ℤ) → c ∣ unsigned_abs x → pos c *ℤ int_div x (pos c) ≡ x
exact_quotient c (pos n) h = ap pos (mul-div_cancel' c h)
exact_quotient c (negsuc n) h = neg_exact c n (suc n / c) (mul-div_cancel' c h)

-- the quotients by a common divisor, times that divisor
pub times-quotients : (c : ℕ) (xs : List ℤ) → DividesAll c xs → scaled (pos c) (quotients (pos c) xs) ≡ xs
times-quotients c [] h = refl
times-quotients c (x ∷ xs) h = ap₂ ◌∷◌ (exact_quotient c x h.0) (times-quotients c xs h.1)

multiples : (c d : ℕ) (xs : List ℤ) → DividesAll d xs → DividesAll (c * d) (scaled (pos c) xs)
multiples c d [] h = tt
multiples c d (x ∷ xs) h = (subst (λ n. c * d ∣ n) (sym (unsigned_abs-mul (pos c) x)) (mul-dvd-mul_left d c h.0), multiples c d xs h.1)

zero_quotients : (c : ℕ) (xs : List ℤ) → AllZero xs → AllZero (quotients (pos c) xs)
zero_quotients c [] h = tt
zero_quotients c (x ∷ xs) h = (subst (λ z. int_div z (pos c) ≡ pos 0) (sym h.0) (ap pos (zero-div c)), zero_quotients c xs h.1)

-- the quotients by the content are primitive
pub IsPrimitive-quotients : (xs : List ℤ) (c : ℕ) → IsContent xs c → IsPrimitive (quotients (pos c) xs)
IsPrimitive-quotients xs c h = at h.greatest
  where
    at : (((d : ℕ) → DividesAll d xs → d ∣ c) ⊎ (AllZero xs × (c ≡ 1))) → IsPrimitive (quotients (pos c) xs)
    at (inr z) = λ d a. inr (zero_quotients c xs z.0)
    at (inl f) = λ d a.
        let m : DividesAll (c * d) xs = subst (DividesAll (c * d)) (times-quotients c xs h.divides) (multiples c d (quotients (pos c) xs) a) in
        let n : c * d ∣ c * 1 = subst (λ w. c * d ∣ w) (omega arith) (f (c * d) m) in
        inl (eq-one_of_dvd-one (dvd_of_mul-dvd-mul_left d h.positive n))

-- a list of content 1 is primitive
pub IsPrimitive-one : (xs : List ℤ) → IsContent xs 1 → IsPrimitive xs
IsPrimitive-one xs h = at h.greatest
  where
    at : {T : Type 0} → ((d : ℕ) → DividesAll d xs → d ∣ 1) ⊎ (AllZero xs × T) → IsPrimitive xs
    at (inr z) = λ d a. inr z.0
    at (inl f) = λ d a. inl (eq-one_of_dvd-one (f d a))

-- a primitive list has content 1
pub IsContent-one : (xs : List ℤ) → IsPrimitive xs → IsContent xs 1
IsContent-one xs h = let r = IsGcdOfAll-exists xs in at r.0 r.1 (h r.0 r.1.divides)
  where
    at : (g : ℕ) → IsGcdOfAll xs g → (g ≡ 1) ⊎ AllZero xs → IsContent xs 1
    at g k (inl e) = subst (IsContent xs) e (IsContent-positive xs g k (omega arith))
    at g k (inr z) = record { positive = omega arith; divides = zero_all 1 xs z; greatest = inr (z, refl) }

-- ---- unit factors and ranges

-- one time a list
pub times-one : (xs : List ℤ) → scaled (pos 1) xs ≡ xs
times-one [] = refl
times-one (x ∷ xs) = ap₂ ◌∷◌ (omega (arith, ints)) (times-one xs)

-- a quotient is no wider than the number
pub quotient-smaller : (c : ℕ) (x : ℤ) → unsigned_abs (int_div x (pos c)) ≤ unsigned_abs x
quotient-smaller c (pos n) = div-le_self n c
quotient-smaller c (negsuc n) = omega (arith, div-le_self (suc n) c, abs_neg (suc n / c))
  where
    abs_neg : (m : ℕ) → unsigned_abs (neg_ℤ (pos m)) ≡ m
    abs_neg zero = refl
    abs_neg (suc m) = refl

-- quotients stay in the range
pub quotients-InRange : (c : ℕ) (xs : List ℤ) → AllByRecursion InRange xs → AllByRecursion InRange (quotients (pos c) xs)
quotients-InRange c [] h = tt
quotients-InRange c (x ∷ xs) h = (record { within = omega (arith, quotient-smaller c x, h.0.within) }, quotients-InRange c xs h.1)
