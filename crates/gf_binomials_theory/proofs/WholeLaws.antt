-- Small whole numbers among fractions: sums, differences and products of them are small, and stay in range.
-- To cite: IsSmallWhole, small-up, small-zero, small-one, small-neg, small-+, small-*, IsPlusMinusOne, fits-add, fits-sub, fits-mul, fits-div.
use Rattle.std.specs.Int.RustNames.{unsigned_abs, int_div}
use Rattle.std.proofs.Common.{◌≡◌, ◌⊎◌, ℕ, ◌+◌, ◌*◌, ◌/◌, ◌<◌, ◌≤◌, ◌^◌, ℤ, pos, ◌+ℤ◌, ◌*ℤ◌, arith, refl, ap, sym, ◌∙◌, subst, inl, inr}
use Rattle.std.proofs.lemmas.Int.{ints, unsigned_abs-mul}
use Rattle.std.proofs.lemmas.Nat.Gcd.{dvd_refl}
use Rattle.std.proofs.Math.Nat.{one-dvd, mul-le-mul}
use lib.IntN.{neg_ℤ}
use Rattle.gf_int_theory.specs.Gcd.{gcd}
use Rattle.gf_int_theory.specs.Range.{InRange}
use Rattle.gf_frac.specs.Fraction.{Fraction, over, whole, ◌+ℚ◌, ◌*ℚ◌, neg_ℚ, reciprocal_ℚ, zero_ℚ, one_ℚ}
use Rattle.gf_frac.specs.Fields.{IsLowest, parts_back}
use Rattle.gf_frac.specs.Fits.{FitsAdd, FitsSub, FitsMul, FitsDiv, FitsSum, FitsProduct}
use Rattle.gf_frac.proofs.FractionLaws.{over-+, over-*, over-neg, one-*ℚ, *ℚ-reciprocal_ℚ, *ℚ_cancel, neg_ℚ-*ℚ, neg_ℚ-neg_ℚ, zero-not-one}
use Rattle.gf_int_theory.proofs.ContentLaws.{gcd-by_one}
use Rattle.gf_frac.proofs.WorkingLaws.{times_one, gcd-one, by_one}
use Rattle.gf_frac.proofs.PartsLaws.{abs_neg}

-- x is a whole number of absolute value k at most
pub record IsSmallWhole (k : ℕ) (x : Fraction) : Type 0 where
  pub number : ℤ
  pub is : x ≡ whole number
  pub size : unsigned_abs number ≤ k

pub small-up : (j k : ℕ) (x : Fraction) → j ≤ k → IsSmallWhole j x → IsSmallWhole k x
small-up j k x l h = record { number = h.number; is = h.is; size = omega (arith, l, h.size) }

pub small-zero : IsSmallWhole 0 zero_ℚ
small-zero = record { number = pos 0; is = refl; size = omega arith }

pub small-one : IsSmallWhole 1 one_ℚ
small-one = record { number = pos 1; is = refl; size = omega arith }

pub small-neg : (k : ℕ) (x : Fraction) → IsSmallWhole k x → IsSmallWhole k (neg_ℚ x)
small-neg k x h = record { number = neg_ℤ h.number; is = ap neg_ℚ h.is ∙ over-neg h.number 0; size = omega (arith, abs_neg h.number, h.size) }

abs-sum : (a b : ℤ) → unsigned_abs (a +ℤ b) ≤ unsigned_abs a + unsigned_abs b
abs-sum a b = omega (arith, ints)

one_right : (a : ℤ) → a *ℤ pos 1 ≡ a
one_right a = omega (arith, ints)

pub whole-+ : (a b : ℤ) → whole a +ℚ whole b ≡ whole (a +ℤ b)
whole-+ a b = over-+ a b 0 0 ∙ ap (λ z. over (z +ℤ b *ℤ pos 1) 0) (one_right a) ∙ ap (λ z. over (a +ℤ z) 0) (one_right b)

pub small-+ : (j k : ℕ) (x y : Fraction) → IsSmallWhole j x → IsSmallWhole k y → IsSmallWhole (j + k) (x +ℚ y)
small-+ j k x y h l = record {
  number = h.number +ℤ l.number;
  is = ap (λ z. z +ℚ y) h.is ∙ ap (λ z. whole h.number +ℚ z) l.is ∙ whole-+ h.number l.number;
  size = omega (arith, abs-sum h.number l.number, h.size, l.size);
}

pub small-* : (j k : ℕ) (x y : Fraction) → IsSmallWhole j x → IsSmallWhole k y → IsSmallWhole (j * k) (x *ℚ y)
small-* j k x y h l = record {
  number = h.number *ℤ l.number;
  is = ap (λ z. z *ℚ y) h.is ∙ ap (λ z. whole h.number *ℚ z) l.is ∙ over-* h.number l.number 0 0;
  size = subst (λ z. z ≤ j * k) (sym (unsigned_abs-mul h.number l.number)) (mul-le-mul h.size l.size);
}

-- ---- the two numbers of a small one

lowest_whole : (z : ℤ) → unsigned_abs z < 2 ^ 127 → IsLowest z 1
lowest_whole z h = record { positive = omega arith; numerator = record { within = h }; denominator = omega arith; lowest = (one-dvd _, dvd_refl 1, λ d x y. y) }

num_of : (k : ℕ) (x : Fraction) → k < 2 ^ 127 → (h : IsSmallWhole k x) → x.num ≡ h.number
num_of k x l h = ap (λ (y : Fraction). y.num) h.is ∙ (parts_back h.number 1 (lowest_whole h.number (omega (arith, l, h.size)))).0

den_of : (k : ℕ) (x : Fraction) → k < 2 ^ 127 → IsSmallWhole k x → x.den ≡ 1
den_of k x l h = ap (λ (y : Fraction). y.den) h.is ∙ (parts_back h.number 1 (lowest_whole h.number (omega (arith, l, h.size)))).1

-- ---- their operations fit

sum_at : (a c : ℤ) → unsigned_abs a < 2 ^ 126 → unsigned_abs c < 2 ^ 126 → FitsSum a 1 c 1
sum_at a c h l = record {
  left = subst InRange (sym (times_one a _ gcd-one)) (record { within = omega (arith, h) });
  right = subst InRange (sym (times_one c _ gcd-one)) (record { within = omega (arith, l) });
  sum = subst InRange (sym (ap (λ z. z +ℤ c *ℤ pos (1 / gcd 1 1)) (times_one a _ gcd-one) ∙ ap (λ z. a +ℤ z) (times_one c _ gcd-one)))
      (record { within = omega (arith, abs-sum a c, h, l) });
  denominator = subst (λ z. z < 2 ^ 127) (sym (ap (λ z. 1 * (1 / z)) gcd-one)) (omega arith);
}

product_at : (a c : ℤ) → unsigned_abs (a *ℤ c) < 2 ^ 127 → FitsProduct a 1 c 1
product_at a c h = record {
  numerator = subst InRange (sym (
      ap (λ z. int_div a (pos z) *ℤ int_div c (pos (gcd (unsigned_abs c) 1))) (gcd-by_one (unsigned_abs a))
      ∙ ap (λ z. int_div a (pos 1) *ℤ int_div c (pos z)) (gcd-by_one (unsigned_abs c))
      ∙ ap (λ z. z *ℤ int_div c (pos 1)) (by_one a) ∙ ap (λ z. a *ℤ z) (by_one c))) (record { within = h });
  denominator = subst (λ z. z < 2 ^ 127) (sym (ap (λ z. (1 / z) * (1 / gcd (unsigned_abs a) 1)) (gcd-by_one (unsigned_abs c)) ∙ ap (λ z. (1 / 1) * (1 / z))
      (gcd-by_one (unsigned_abs a)))) (omega arith);
}

pub fits-add : (j k : ℕ) (x y : Fraction) → j < 2 ^ 126 → k < 2 ^ 126 → IsSmallWhole j x → IsSmallWhole k y → FitsAdd x y
fits-add j k x y lj lk h l =
    subst (λ z. FitsSum z x.den y.num y.den) (sym (num_of j x (omega (arith, lj)) h))
    (subst (λ z. FitsSum h.number z y.num y.den) (sym (den_of j x (omega (arith, lj)) h))
    (subst (λ z. FitsSum h.number 1 z y.den) (sym (num_of k y (omega (arith, lk)) l))
    (subst (λ z. FitsSum h.number 1 l.number z) (sym (den_of k y (omega (arith, lk)) l))
    (sum_at h.number l.number (omega (arith, lj, h.size)) (omega (arith, lk, l.size))))))

pub fits-sub : (j k : ℕ) (x y : Fraction) → j < 2 ^ 126 → k < 2 ^ 126 → IsSmallWhole j x → IsSmallWhole k y → FitsSub x y
fits-sub j k x y lj lk h l = fits-add j k x (neg_ℚ y) lj lk h (small-neg k y l)

pub fits-mul : (j k : ℕ) (x y : Fraction) → j < 2 ^ 127 → k < 2 ^ 127 → j * k < 2 ^ 127 → IsSmallWhole j x → IsSmallWhole k y → FitsMul x y
fits-mul j k x y lj lk m h l =
    subst (λ z. FitsProduct z x.den y.num y.den) (sym (num_of j x lj h))
    (subst (λ z. FitsProduct h.number z y.num y.den) (sym (den_of j x lj h))
    (subst (λ z. FitsProduct h.number 1 z y.den) (sym (num_of k y lk l))
    (subst (λ z. FitsProduct h.number 1 l.number z) (sym (den_of k y lk l))
    (product_at h.number l.number (let q : unsigned_abs (h.number *ℤ l.number) ≤ j * k = subst (λ z. z ≤ j * k) (sym (unsigned_abs-mul h.number l.number))
    (mul-le-mul h.size l.size) in omega (arith, q, m))))))

-- ---- 1 and -1 are their own reciprocals

abbrev pub IsPlusMinusOne : Fraction → Type 0
IsPlusMinusOne x = (x ≡ one_ℚ) ⊎ (x ≡ neg_ℚ one_ℚ)

reciprocal-one : reciprocal_ℚ one_ℚ ≡ one_ℚ
reciprocal-one = sym (one-*ℚ (reciprocal_ℚ one_ℚ)) ∙ *ℚ-reciprocal_ℚ one_ℚ (λ e. zero-not-one (sym e))

pub neg_one-not_zero : neg_ℚ one_ℚ ≡ zero_ℚ → ⊥
neg_one-not_zero e =
    let z : one_ℚ ≡ zero_ℚ = sym (neg_ℚ-neg_ℚ one_ℚ) ∙ ap neg_ℚ e ∙ over-neg (pos 0) 0 in
    zero-not-one (sym z)

reciprocal-neg : reciprocal_ℚ (neg_ℚ one_ℚ) ≡ neg_ℚ one_ℚ
reciprocal-neg = *ℚ_cancel (neg_ℚ one_ℚ) (reciprocal_ℚ (neg_ℚ one_ℚ)) (neg_ℚ one_ℚ) neg_one-not_zero
    (*ℚ-reciprocal_ℚ (neg_ℚ one_ℚ) neg_one-not_zero ∙ sym (neg_ℚ-*ℚ one_ℚ (neg_ℚ one_ℚ) ∙ ap neg_ℚ (one-*ℚ (neg_ℚ one_ℚ)) ∙ neg_ℚ-neg_ℚ one_ℚ))

reciprocal-small : (y : Fraction) → IsPlusMinusOne y → IsSmallWhole 1 (reciprocal_ℚ y)
reciprocal-small y (inl e) = subst (λ z. IsSmallWhole 1 (reciprocal_ℚ z)) (sym e) (subst (IsSmallWhole 1) (sym reciprocal-one) small-one)
reciprocal-small y (inr e) = subst (λ z. IsSmallWhole 1 (reciprocal_ℚ z)) (sym e) (subst (IsSmallWhole 1) (sym reciprocal-neg) (small-neg 1 one_ℚ small-one))

-- so a quotient by one of them stays in range
pub fits-div : (j : ℕ) (x y : Fraction) → j < 2 ^ 126 → IsSmallWhole j x → IsPlusMinusOne y → FitsDiv x y
fits-div j x y l h u = fits-mul j 1 x (reciprocal_ℚ y) (omega (arith, l)) (omega arith) (omega (arith, l)) h (reciprocal-small y u)
