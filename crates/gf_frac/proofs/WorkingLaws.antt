-- What the code works out is the sum, or the product, of the fractions.
use Rattle.std.specs.Int.RustNames.{unsigned_abs, int_div}
use Rattle.std.proofs.Common.{◌≡◌, ℕ, zero, suc, ◌-◌, ◌*◌, ◌/◌, ◌<◌, ◌≤◌, ◌^◌, ℤ, pos, negsuc, ◌+ℤ◌, ◌*ℤ◌, arith, refl, ap, sym, ◌∙◌, subst}
use Rattle.std.proofs.Math.Nat.{mul-div_cancel', mul-pos}
use Rattle.std.specs.Int.{IsGcd}
use Rattle.std.proofs.lemmas.Int.{ints}
use Rattle.std.proofs.lemmas.Nat.Gcd.{le_of_dvd}
use Rattle.gf_int_theory.specs.Gcd.{gcd, gcd-is, gcd-positive}
use Rattle.gf_int_theory.specs.Range.{InRange}
use Rattle.gf_int_theory.specs.Integers.{each, naturals, diff-eq}
use Rattle.gf_frac.specs.Fraction.{Fraction, over, over-eq, ◌+ℚ◌, ◌*ℚ◌, div-times}
use Rattle.gf_frac.specs.Fields.{IsLowest}
use Rattle.gf_frac.proofs.PartsLaws.{IsLowest-whole}
use Rattle.gf_frac.proofs.LowestLaws.{lowest_product, sum_common}
use Rattle.gf_frac.specs.Fits.{FitsAdd, FitsMul, FitsSum, FitsProduct, IsReduced, IsSum, IsSumWorking, sum_numerator, sum_denominator, IsProduct}
use Rattle.gf_frac.specs.Fits.{product_numerator, product_denominator}
use Rattle.gf_int_theory.proofs.ContentLaws.{gcd-by_one}

factor_positive : (g x y : ℕ) → g * x ≡ y → 0 < y → 0 < x
factor_positive g zero y e h = absurd (omega arith)
factor_positive g (suc x) y e h = omega arith

-- ---- sums

-- the common denominator is positive
pub sum_denominator-positive : (b d : ℕ) → 0 < b → 0 < d → 0 < sum_denominator b d
sum_denominator-positive b d h k = mul-pos h (factor_positive _ _ d (mul-div_cancel' _ (gcd-is b d).1) k)

cross : (xn yn : ℤ) (g b d : ℕ) → (xn *ℤ pos d +ℤ yn *ℤ pos b) *ℤ pos ((g * b) * (g * d)) ≡ (xn *ℤ pos (g * d) +ℤ yn *ℤ pos (g * b)) *ℤ pos ((g * b) * d)
cross = each _ (λ x x'. each _ (λ y y'. λ g b d. simp naturals (diff-eq _ _ _ _ (omega arith))))

crosswise : (xn yn : ℤ) (g b d xd yd : ℕ) → g * b ≡ xd → g * d ≡ yd → (xn *ℤ pos d +ℤ yn *ℤ pos b) *ℤ pos (xd * yd) ≡ (xn *ℤ pos yd +ℤ yn *ℤ pos xd) *ℤ
    pos (xd * d)
crosswise xn yn g b d xd yd e f = subst (λ z. (xn *ℤ pos d +ℤ yn *ℤ pos b) *ℤ pos (z * yd) ≡ (xn *ℤ pos yd +ℤ yn *ℤ pos z) *ℤ pos (z * d)) e
    (subst (λ z. (xn *ℤ pos d +ℤ yn *ℤ pos b) *ℤ pos ((g * b) * z) ≡ (xn *ℤ pos z +ℤ yn *ℤ pos (g * b)) *ℤ pos ((g * b) * d)) f (cross xn yn g b d))

-- the numbers of a sum's working make the sum
pub sum_is : (x y : Fraction) → over (sum_numerator x.num x.den y.num y.den) (sum_denominator x.den y.den - 1) ≡ x +ℚ y
unfolding ◌+ℚ◌
sum_is x y =
    let n : ℤ = sum_numerator x.num x.den y.num y.den in
    let p : 0 < sum_denominator x.den y.den = sum_denominator-positive x.den y.den x.positive y.positive in
    let q : 0 < x.den * y.den = mul-pos x.positive y.positive in
    let e1 : suc (sum_denominator x.den y.den - 1) ≡ sum_denominator x.den y.den = omega arith in
    let e2 : suc (x.den * y.den - 1) ≡ x.den * y.den = omega arith in
    over-eq _ _ _ _ (ap (λ z. n *ℤ pos z) e2
    ∙ crosswise x.num y.num (gcd x.den y.den) (x.den / gcd x.den y.den) (y.den / gcd x.den y.den) x.den y.den (mul-div_cancel' _ (gcd-is x.den y.den).0)
    (mul-div_cancel' _ (gcd-is x.den y.den).1)
    ∙ ap (λ z. (x.num *ℤ pos y.den +ℤ y.num *ℤ pos x.den) *ℤ pos z) (sym e1))

-- so do the numbers that the code returns, and the fractions' working stays in range
pub sum_of : (x y : Fraction) (a c : ℤ) (b d : ℕ) (n : ℤ) (m : ℕ) → a ≡ x.num → b ≡ x.den → c ≡ y.num → d ≡ y.den → IsSum a b c d (n, m) →
    (over n (m - 1) ≡ x +ℚ y) × FitsAdd x y
sum_of x y a c b d n m ea eb ec ed h =
    let k : IsSum x.num x.den y.num y.den (n, m) =
    subst (λ z. IsSum x.num x.den y.num z (n, m)) ed (subst (λ z. IsSum x.num x.den z d (n, m)) ec
    (subst (λ z. IsSum x.num z c d (n, m)) eb (subst (λ z. IsSum z b c d (n, m)) ea h))) in
    (k.value ∙ sum_is x y, k.fits)

-- the denominator that the code works out is positive
pub working_positive : (a c n : ℤ) (b d m g : ℕ) → IsLowest a b → IsLowest c d → IsSumWorking a b c d (n, m, g) → 0 < m
working_positive a c n b d m g la lc w = subst (λ z. 0 < z) (sym w.denominator) (sum_denominator-positive b d la.positive lc.positive)

-- with it the numerator has the same common divisor as with g
pub working_common : (a c n : ℤ) (b d m g : ℕ) → IsLowest a b → IsLowest c d → IsSumWorking a b c d (n, m, g) → gcd (unsigned_abs n) m ≡ gcd (unsigned_abs n) g
working_common a c n b d m g la lc w = subst (λ z. gcd (unsigned_abs z) m ≡ gcd (unsigned_abs z) g) (sym w.numerator) (
    ap (gcd (unsigned_abs (sum_numerator a b c d))) w.denominator
    ∙ sum_common a c b d lc.positive la.lowest lc.lowest
    ∙ ap (gcd (unsigned_abs (sum_numerator a b c d))) (sym w.divisor)
    )

-- both are in range, and so is g
pub working_range : (a c n : ℤ) (b d m g : ℕ) → IsLowest c d → IsSumWorking a b c d (n, m, g) → InRange n × (m < 2 ^ 127) × (0 < g) × (g < 2 ^ 127)
working_range a c n b d m g lc w = (
  subst InRange (sym w.numerator) w.fits.sum,
  subst (λ z. z < 2 ^ 127) (sym w.denominator) w.fits.denominator,
  subst (λ z. 0 < z) (sym w.divisor) (gcd-positive b d lc.positive),
  subst (λ z. z < 2 ^ 127) (sym w.divisor) (let h : gcd b d ≤ d = le_of_dvd lc.positive (gcd-is b d).1 in omega (arith, h, lc.denominator)),
)

-- its lowest terms are the sum's
pub sum_made : (a c n : ℤ) (b d m g : ℕ) (s : ℤ × ℕ) → IsSumWorking a b c d (n, m, g) → IsReduced n m s → IsSum a b c d s
sum_made a c n b d m g s w h = record {
  fits = w.fits;
  lowest = h.lowest;
  value = h.value ∙ ap (λ z. over z (m - 1)) w.numerator ∙ ap (λ z. over (sum_numerator a b c d) (z - 1)) w.denominator;
}

-- ---- products

-- the product's denominator is positive
pub product_denominator-positive : (a c : ℤ) (b d : ℕ) → 0 < b → 0 < d → 0 < product_denominator a b c d
product_denominator-positive a c b d h k = mul-pos (factor_positive _ _ b (mul-div_cancel' _ (gcd-is (unsigned_abs c) b).1) h)
    (factor_positive _ _ d (mul-div_cancel' _ (gcd-is (unsigned_abs a) d).1) k)

cross_product : (a c : ℤ) (g h b d : ℕ) → (a *ℤ c) *ℤ pos ((h * b) * (g * d)) ≡ ((a *ℤ pos g) *ℤ (c *ℤ pos h)) *ℤ pos (b * d)
cross_product = each _ (λ x x'. each _ (λ y y'. λ g h b d. simp naturals (diff-eq _ _ _ _ (omega arith))))

crosswise_product : (a c xn yn : ℤ) (g h b d xd yd : ℕ) → a *ℤ pos g ≡ xn → c *ℤ pos h ≡ yn → h * b ≡ xd → g * d ≡ yd →
    (a *ℤ c) *ℤ pos (xd * yd) ≡ (xn *ℤ yn) *ℤ pos (b * d)
crosswise_product a c xn yn g h b d xd yd ea ec eb ed = rw (← ea, ← ec, ← eb, ← ed) (cross_product a c g h b d)

-- the numbers of a product's working make the product
pub product_is : (x y : Fraction) → over (product_numerator x.num x.den y.num y.den) (product_denominator x.num x.den y.num y.den - 1) ≡ x *ℚ y
unfolding ◌*ℚ◌
product_is x y =
    let n : ℤ = product_numerator x.num x.den y.num y.den in
    let p : 0 < product_denominator x.num x.den y.num y.den = product_denominator-positive x.num y.num x.den y.den x.positive y.positive in
    let q : 0 < x.den * y.den = mul-pos x.positive y.positive in
    let e1 : suc (product_denominator x.num x.den y.num y.den - 1) ≡ product_denominator x.num x.den y.num y.den = omega arith in
    let e2 : suc (x.den * y.den - 1) ≡ x.den * y.den = omega arith in
    let g = gcd (unsigned_abs x.num) y.den in
    let h = gcd (unsigned_abs y.num) x.den in
    over-eq _ _ _ _ (ap (λ z. n *ℤ pos z) e2
    ∙ crosswise_product (int_div x.num (pos g)) (int_div y.num (pos h)) x.num y.num g h (x.den / h) (y.den / g) x.den y.den
    (div-times x.num g (mul-div_cancel' _ (gcd-is (unsigned_abs x.num) y.den).0)) (div-times y.num h (mul-div_cancel' _ (gcd-is (unsigned_abs y.num) x.den).0))
    (mul-div_cancel' _ (gcd-is (unsigned_abs y.num) x.den).1) (mul-div_cancel' _ (gcd-is (unsigned_abs x.num) y.den).1)
    ∙ ap (λ z. (x.num *ℤ y.num) *ℤ pos z) (sym e1))

-- so do the numbers that the code returns, and the fractions' working stays in range
pub product_of : (x y : Fraction) (a c : ℤ) (b d : ℕ) (n : ℤ) (m : ℕ) → a ≡ x.num → b ≡ x.den → c ≡ y.num → d ≡ y.den → IsProduct a b c d (n, m) →
    (over n (m - 1) ≡ x *ℚ y) × FitsMul x y
product_of x y a c b d n m ea eb ec ed h =
    let k : IsProduct x.num x.den y.num y.den (n, m) =
    subst (λ z. IsProduct x.num x.den y.num z (n, m)) ed (subst (λ z. IsProduct x.num x.den z d (n, m)) ec
    (subst (λ z. IsProduct x.num z c d (n, m)) eb (subst (λ z. IsProduct z b c d (n, m)) ea h))) in
    (k.value ∙ product_is x y, k.fits)

-- as the code names them
pub product_made : (a c x y n : ℤ) (b d g h u v m : ℕ) → IsLowest a b → IsLowest c d → g ≡ gcd (unsigned_abs a) d → h ≡ gcd (unsigned_abs c) b →
    x ≡ int_div a (pos g) → y ≡ int_div c (pos h) → (n ≡ x *ℤ y) × InRange n → u ≡ b / h → v ≡ d / g → (m ≡ u * v) × (m < 2 ^ 127) → IsProduct a b c d (n, m)
product_made a c x y n b d g h u v m la lc eg eh ex ey hn eu ev hm =
    let fx : x ≡ int_div a (pos (gcd (unsigned_abs a) d)) = ex ∙ ap (λ z. int_div a (pos z)) eg in
    let fy : y ≡ int_div c (pos (gcd (unsigned_abs c) b)) = ey ∙ ap (λ z. int_div c (pos z)) eh in
    let en : n ≡ product_numerator a b c d = hn.0 ∙ ap (λ z. z *ℤ y) fx ∙ ap (λ z. int_div a (pos (gcd (unsigned_abs a) d)) *ℤ z) fy in
    let em : m ≡ product_denominator a b c d = hm.0 ∙ ap (λ z. z * v) eu ∙ ap (λ z. (b / h) * z) ev ∙ ap (λ z. (b / z) * (d / g)) eh ∙
    ap (λ z. (b / gcd (unsigned_abs c) b) * (d / z)) eg in
    record {
      fits = record { numerator = subst InRange en hn.1; denominator = subst (λ z. z < 2 ^ 127) em hm.1 };
      lowest = record {
        positive = subst (λ z. 0 < z) (sym em) (product_denominator-positive a c b d la.positive lc.positive);
        numerator = hn.1;
        denominator = hm.1;
        lowest = subst (λ z. IsGcd (unsigned_abs z) m 1) (sym en) (subst (λ z. IsGcd (unsigned_abs (product_numerator a b c d)) z 1) (sym em)
            (lowest_product a c b d la.positive lc.positive la.lowest lc.lowest));
      };
      value = ap (λ z. over z (m - 1)) en ∙ ap (λ z. over (product_numerator a b c d) (z - 1)) em;
    }

-- ---- whole numbers

pub gcd-one : gcd 1 1 ≡ 1
unfolding gcd
gcd-one = refl

pub by_one : (a : ℤ) → int_div a (pos 1) ≡ a
by_one (pos n) = omega (arith, ints)
by_one (negsuc n) = omega (arith, ints)

pub times_one : (a : ℤ) (g : ℕ) → g ≡ 1 → a *ℤ pos (1 / g) ≡ a
times_one a g e = rw e (unit a)
  where
    unit : (a : ℤ) → a *ℤ pos 1 ≡ a
    unit a = omega (arith, ints)

whole_sum_numerator : (a c : ℤ) → sum_numerator a 1 c 1 ≡ a +ℤ c
whole_sum_numerator a c = ap (λ z. z +ℤ c *ℤ pos (1 / gcd 1 1)) (times_one a _ gcd-one) ∙ ap (λ z. a +ℤ z) (times_one c _ gcd-one)

whole_sum_denominator : sum_denominator 1 1 ≡ 1
whole_sum_denominator = ap (λ z. 1 * (1 / z)) gcd-one

-- the working of a sum of whole numbers is the sum
pub whole_sum_fits : (a c : ℤ) → FitsSum a 1 c 1 → InRange (a +ℤ c)
whole_sum_fits a c h = subst InRange (whole_sum_numerator a c) h.sum

-- what the code works out of whole numbers
pub whole_sum_made : (a c n : ℤ) → InRange a → InRange c → n ≡ a +ℤ c → InRange n → IsSum a 1 c 1 (n, 1)
whole_sum_made a c n ha hc e h = record {
  fits = record {
    left = subst InRange (sym (times_one a _ gcd-one)) ha;
    right = subst InRange (sym (times_one c _ gcd-one)) hc;
    sum = subst InRange (e ∙ sym (whole_sum_numerator a c)) h;
    denominator = subst (λ z. z < 2 ^ 127) (sym whole_sum_denominator) (omega arith);
  };
  lowest = IsLowest-whole n h;
  value = ap (λ z. over z 0) (e ∙ sym (whole_sum_numerator a c)) ∙ ap (λ z. over (sum_numerator a 1 c 1) (z - 1)) (sym whole_sum_denominator);
}

whole_product_numerator : (a c : ℤ) → product_numerator a 1 c 1 ≡ a *ℤ c
whole_product_numerator a c =
    ap (λ z. int_div a (pos z) *ℤ int_div c (pos (gcd (unsigned_abs c) 1))) (gcd-by_one (unsigned_abs a))
    ∙ ap (λ z. int_div a (pos 1) *ℤ int_div c (pos z)) (gcd-by_one (unsigned_abs c))
    ∙ ap (λ z. z *ℤ int_div c (pos 1)) (by_one a) ∙ ap (λ z. a *ℤ z) (by_one c)

whole_product_denominator : (a c : ℤ) → product_denominator a 1 c 1 ≡ 1
whole_product_denominator a c = ap (λ z. (1 / z) * (1 / gcd (unsigned_abs a) 1)) (gcd-by_one (unsigned_abs c)) ∙ ap (λ z. (1 / 1) * (1 / z))
    (gcd-by_one (unsigned_abs a))

-- the working of a product of whole numbers is the product
pub whole_product_fits : (a c : ℤ) → FitsProduct a 1 c 1 → InRange (a *ℤ c)
whole_product_fits a c h = subst InRange (whole_product_numerator a c) h.numerator

-- what the code works out of whole numbers
pub whole_product_made : (a c n : ℤ) → n ≡ a *ℤ c → InRange n → IsProduct a 1 c 1 (n, 1)
whole_product_made a c n e h = record {
  fits = record {
    numerator = subst InRange (e ∙ sym (whole_product_numerator a c)) h;
    denominator = subst (λ z. z < 2 ^ 127) (sym (whole_product_denominator a c)) (omega arith);
  };
  lowest = IsLowest-whole n h;
  value = ap (λ z. over z 0) (e ∙ sym (whole_product_numerator a c)) ∙ ap (λ z. over (product_numerator a 1 c 1) (z - 1)) (sym (whole_product_denominator a c));
}
