-- The two numbers of a fraction as the code keeps them and works them out.
use Rattle.std.specs.Int.{w128, cast_signed, cast_unsigned, IsGcd}
use Rattle.std.specs.Int.RustNames.{unsigned_abs, int_div}
use Rattle.std.proofs.Common.{◌≡◌, ℕ, zero, suc, ◌-◌, ◌/◌, ◌<◌, ◌^◌, ℤ, pos, negsuc, FitsSigned, arith, ap, sym, ◌∙◌, subst, refl}
use Rattle.std.proofs.lemmas.Int.{to_z-of_z}
use Rattle.std.proofs.lemmas.Nat.Gcd.{IsGcd-swap, dvd_refl}
use Rattle.std.proofs.Math.Nat.{one-dvd}
use lib.IntN.{neg_ℤ}
use Rattle.gf_int_theory.specs.Gcd.{gcd, gcd-is, gcd-same}
use Rattle.gf_int_theory.specs.Range.{InRange}
use Rattle.gf_frac.specs.Fraction.{Fraction, over, over-parts, neg_ℚ, signed_as, reciprocal_ℚ, zero_ℚ}
use Rattle.gf_frac.specs.Fields.{IsLowest, parts_back}
use Rattle.gf_frac.specs.Fits.{IsReduced}
use Rattle.gf_frac.proofs.FractionLaws.{zero_by_num}
use Rattle.gf_int_theory.proofs.ContentLaws.{quotient-smaller}

-- ---- a fraction's own numbers

-- a number that went to bits and back
pub through : (z x : ℤ) → FitsSigned w128 z → z ≡ x → cast_signed w128 (cast_unsigned w128 z) ≡ x
through z x f e = to_z-of_z w128 z f ∙ e

-- the numerator kept is the fraction's
pub numerator_is : (p : ℤ) (q : ℕ) (x : Fraction) → IsLowest p q → over p (q - 1) ≡ x → p ≡ x.num
numerator_is p q x h e = sym (parts_back p q h).0 ∙ ap (λ y. y.num) e

-- the denominator kept is the fraction's
pub denominator_is : (p : ℤ) (q : ℕ) (x : Fraction) → IsLowest p q → over p (q - 1) ≡ x → q ≡ x.den
denominator_is p q x h e = sym (parts_back p q h).1 ∙ ap (λ y. y.den) e

-- ---- negatives

pub abs_neg : (p : ℤ) → unsigned_abs (neg_ℤ p) ≡ unsigned_abs p
abs_neg (pos zero) = refl
abs_neg (pos (suc n)) = refl
abs_neg (negsuc n) = refl

-- a negative has the same lowest terms but for the sign
pub IsLowest-neg : (p : ℤ) (q : ℕ) → IsLowest p q → IsLowest (neg_ℤ p) q
IsLowest-neg p q h = record {
  positive = h.positive;
  numerator = record { within = rw (abs_neg p) h.numerator.within };
  denominator = h.denominator;
  lowest = subst (λ z. IsGcd z q 1) (sym (abs_neg p)) h.lowest;
}

-- the negative that the code works out is the fraction's
pub neg_of : (x : Fraction) (p n : ℤ) (q : ℕ) → p ≡ x.num → q ≡ x.den → n ≡ neg_ℤ p → over n (q - 1) ≡ neg_ℚ x
unfolding neg_ℚ
neg_of x p n q e f g = ap (λ z. over z (q - 1)) (g ∙ ap neg_ℤ e) ∙ ap (λ z. over (neg_ℤ x.num) (z - 1)) f

-- ---- reciprocals

-- the numerator kept of a nonzero fraction isn't zero
pub nonzero_numerator : (x : Fraction) (p : ℤ) → ¬ (x ≡ zero_ℚ) → p ≡ x.num → ¬ (p ≡ pos 0)
nonzero_numerator x p h e = λ z. h (zero_by_num x (sym e ∙ z))

-- lowest terms turned round
pub IsLowest-reciprocal : (p : ℤ) (q : ℕ) → ¬ (p ≡ pos 0) → IsLowest p q → IsLowest (signed_as p q) (unsigned_abs p)
IsLowest-reciprocal (pos zero) q h k = absurd (h refl)
IsLowest-reciprocal (pos (suc a)) q h k = record {
  positive = omega arith;
  numerator = record { within = k.denominator };
  denominator = k.numerator.within;
  lowest = IsGcd-swap (suc a) q 1 k.lowest;
}
IsLowest-reciprocal (negsuc a) q h k = record {
  positive = omega arith;
  numerator = record { within = rw (abs_neg (pos q)) k.denominator };
  denominator = k.numerator.within;
  lowest = subst (λ z. IsGcd z (suc a) 1) (sym (abs_neg (pos q))) (IsGcd-swap (suc a) q 1 k.lowest);
}

-- the reciprocal that the code works out is the fraction's
pub reciprocal_of : (x : Fraction) (p n : ℤ) (q m : ℕ) → p ≡ x.num → q ≡ x.den → n ≡ signed_as p q → m ≡ unsigned_abs p → over n (m - 1) ≡ reciprocal_ℚ x
unfolding reciprocal_ℚ
reciprocal_of x p n q m e f g h =
    ap (λ z. over z (m - 1)) (g ∙ ap (λ z. signed_as z q) e ∙ ap (signed_as x.num) f) ∙ ap (λ z. over (signed_as x.num x.den) (z - 1)) (h ∙ ap unsigned_abs e)

-- ---- the lowest terms that the code works out

-- a quotient of a number in range is in range
pub InRange-quotient : (p : ℤ) (g : ℕ) → InRange p → InRange (int_div p (pos g))
InRange-quotient p g h = record { within = omega (arith, quotient-smaller g p, h.within) }

num-over : (p : ℤ) (q : ℕ) → 0 < q → int_div p (pos (gcd (unsigned_abs p) q)) ≡ (over p (q - 1)).num
unfolding over
num-over p q h = let e : suc (q - 1) ≡ q = omega arith in ap (λ n. int_div p (pos (gcd (unsigned_abs p) n))) (sym e)

den-over : (p : ℤ) (q : ℕ) → 0 < q → q / gcd (unsigned_abs p) q ≡ (over p (q - 1)).den
unfolding over
den-over p q h = let e : suc (q - 1) ≡ q = omega arith in ap (λ n. n / gcd (unsigned_abs p) n) (sym e)

-- both numbers divided by their greatest common divisor are the lowest terms
pub reduced : (p n : ℤ) (q d : ℕ) → InRange p → 0 < q → q < 2 ^ 127 → n ≡ int_div p (pos (gcd (unsigned_abs p) q)) → d ≡ q / gcd (unsigned_abs p) q →
    IsReduced p q (n, d)
reduced p n q d r h l en ed =
    let x : Fraction = over p (q - 1) in
    let a : n ≡ x.num = en ∙ num-over p q h in
    let b : d ≡ x.den = ed ∙ den-over p q h in
    record {
      lowest = record {
        positive = subst (λ z. 0 < z) (sym b) x.positive;
        numerator = subst InRange (sym en) (InRange-quotient p _ r);
        denominator = omega (arith, ed);
        lowest = subst (λ z. IsGcd (unsigned_abs z) d 1) (sym a) (subst (λ z. IsGcd (unsigned_abs x.num) z 1) (sym b) x.lowest);
      };
      value = ap (λ z. over z (d - 1)) a ∙ ap (λ z. over x.num (z - 1)) b ∙ over-parts x;
    }

-- the same by any number with which the numerator has the same common divisor
pub reduced_by : (p n : ℤ) (q g t d : ℕ) → InRange p → 0 < q → q < 2 ^ 127 → gcd (unsigned_abs p) q ≡ gcd (unsigned_abs p) g → t ≡ gcd (unsigned_abs p) g →
    n ≡ int_div p (pos t) → d ≡ q / t → IsReduced p q (n, d)
reduced_by p n q g t d r h l e f en ed =
    let k : t ≡ gcd (unsigned_abs p) q = f ∙ sym e in
    reduced p n q d r h l (en ∙ ap (λ z. int_div p (pos z)) k) (ed ∙ ap (λ z. q / z) k)

-- numbers without a common divisor are in lowest terms
pub reduced_one : (p : ℤ) (q g : ℕ) → InRange p → 0 < q → q < 2 ^ 127 → gcd (unsigned_abs p) q ≡ gcd (unsigned_abs p) g → g ≡ 1 → IsReduced p q (p, q)
reduced_one p q g r h l e f = record {
  lowest = record {
    positive = h;
    numerator = r;
    denominator = l;
    lowest = subst (IsGcd (unsigned_abs p) q) (e ∙ ap (gcd (unsigned_abs p)) f ∙ sym (gcd-same (unsigned_abs p) 1 1 (one-dvd _, dvd_refl 1, λ d x y. y)))
        (gcd-is (unsigned_abs p) q);
  };
  value = refl;
}

-- a whole number is in lowest terms
pub IsLowest-whole : (p : ℤ) → InRange p → IsLowest p 1
IsLowest-whole p r = record { positive = omega arith; numerator = r; denominator = omega arith; lowest = (one-dvd _, dvd_refl 1, λ d x y. y) }
