-- Fractions of any size in lowest terms: sums, products, negatives, reciprocals, quotients.
-- Zero is 0/1. Two fractions are equal where their two numbers are, so `≡` is equality of values.
-- Here stand the laws that these definitions are made of; the field is in proofs/FractionLaws.antt.
use Rattle.std.specs.Int.{IsGcd, ◌∣◌}
use Rattle.std.specs.Int.RustNames.{unsigned_abs, int_div}
use Rattle.std.proofs.Common.{◌≡◌, ℕ, zero, suc, ◌-◌, ◌*◌, ◌/◌, ◌<◌, ℤ, pos, negsuc, ◌+ℤ◌, ◌*ℤ◌, arith, sym, refl, ap, ◌∙◌, subst}
use Rattle.std.proofs.Math.Nat.{pos_of_dvd_of_pos, mul-div_cancel', dvd-mul_left}
use Rattle.std.proofs.lemmas.Int.{ints, unsigned_abs-mul}
use Rattle.std.specs.Coded.{Coded, code_by, coded×, coded_ℤ, coded_ℕ}
use lib.IntN.{neg_ℤ}
use mathlib.Core.HLevel.{is_prop→PathP}
use mathlib.Core.Logic.{∥∥₁_prop}
use native.Mathlib.Bridge.{le_prop}
use Rattle.gf_int_theory.specs.Gcd.{gcd, gcd-is, gcd-positive, lowest-quotients, lowest-denominator}
use Rattle.gf_int_theory.specs.Integers.{each, diffs, diff-eq, cancel_factor, *ℤ_assoc, swap_middle}

-- the fraction num/den in lowest terms
pub record Fraction : Type 0 where
  pub num : ℤ
  pub den : ℕ
  pub positive : 0 < den
  pub lowest : IsGcd (unsigned_abs num) den 1

-- ---- the lowest terms of p / (n + 1)

den-times : (p : ℤ) (n : ℕ) → gcd (unsigned_abs p) (suc n) * (suc n / gcd (unsigned_abs p) (suc n)) ≡ suc n
den-times p n = mul-div_cancel' _ (gcd-is (unsigned_abs p) (suc n)).1

-- the size of a quotient is the quotient of the size
pub abs-div : (p : ℤ) (g : ℕ) → unsigned_abs (int_div p (pos g)) ≡ unsigned_abs p / g
abs-div (pos a) g = refl
abs-div (negsuc a) g = omega (arith, ints)

neg_times : (x g a : ℕ) → g * x ≡ suc a → neg_ℤ (pos x) *ℤ pos g ≡ negsuc a
neg_times zero g a h = omega (arith, ints, h)
neg_times (suc x) g a h = omega (arith, ints, h)

-- an exact quotient times the divisor
pub div-times : (p : ℤ) (g : ℕ) → g * (unsigned_abs p / g) ≡ unsigned_abs p → int_div p (pos g) *ℤ pos g ≡ p
div-times (pos a) g h = ap pos (omega (arith, h))
div-times (negsuc a) g h = neg_times (suc a / g) g a h

num-times : (p : ℤ) (n : ℕ) → int_div p (pos (gcd (unsigned_abs p) (suc n))) *ℤ pos (gcd (unsigned_abs p) (suc n)) ≡ p
num-times p n = div-times p _ (mul-div_cancel' _ (gcd-is (unsigned_abs p) (suc n)).0)

-- the denominator of lowest terms is positive
pub quotient_positive : (p : ℤ) (n : ℕ) → 0 < suc n / gcd (unsigned_abs p) (suc n)
quotient_positive p n = let q = suc n / gcd (unsigned_abs p) (suc n) in pos_of_dvd_of_pos (subst (λ x. q ∣ x) (den-times p n) (dvd-mul_left q _)) (omega arith)

-- both numbers divided by their greatest common divisor are coprime
pub lowest_terms : (p : ℤ) (n : ℕ) → IsGcd (unsigned_abs (int_div p (pos (gcd (unsigned_abs p) (suc n))))) (suc n / gcd (unsigned_abs p) (suc n)) 1
lowest_terms p n =
    lowest-quotients (unsigned_abs p) (suc n) _ _ _ (gcd-is (unsigned_abs p) (suc n)) (gcd-positive (unsigned_abs p) (suc n) (omega arith))
    (sym (ap (λ x. gcd (unsigned_abs p) (suc n) * x) (abs-div p _) ∙ mul-div_cancel' _ (gcd-is (unsigned_abs p) (suc n)).0))
    (sym (den-times p n))

-- the fraction p / (n + 1)
unfoldable pub over : ℤ → ℕ → Fraction
over p n = let g = gcd (unsigned_abs p) (suc n) in record {
  num = int_div p (pos g);
  den = suc n / g;
  positive = quotient_positive p n;
  lowest = lowest_terms p n;
}

crosswise : (x p : ℤ) (g y m : ℕ) → x *ℤ pos g ≡ p → g * y ≡ m → x *ℤ pos m ≡ p *ℤ pos y
crosswise x p g y m h k = ap (λ z. x *ℤ pos z) (sym k) ∙ sym (*ℤ_assoc x (pos g) (pos y)) ∙ ap (λ z. z *ℤ pos y) h

-- it is p / (n + 1), crosswise
pub over-is : (p : ℤ) (n : ℕ) → (over p n).num *ℤ pos (suc n) ≡ p *ℤ pos (over p n).den
unfolding over
over-is p n = crosswise _ p _ _ (suc n) (num-times p n) (den-times p n)

-- ---- equal fractions

IsGcd-prop : (a b g : ℕ) → IsProp (IsGcd a b g)
IsGcd-prop a b g = hlevel (∥∥₁_prop)

-- two fractions with the same two numbers are one
pub same_parts : (x y : Fraction) → x.num ≡ y.num → x.den ≡ y.den → x ≡ y
same_parts x y e d = λ i. record {
  num = e i;
  den = d i;
  positive = is_prop→PathP (λ j. 0 < d j) (λ j. le_prop) x.positive y.positive i;
  lowest = is_prop→PathP (λ j. IsGcd (unsigned_abs (e j)) (d j) 1) (λ j. IsGcd-prop _ _ _) x.lowest y.lowest i;
}

-- two fractions that are equal crosswise are one
pub same_crosswise : (x y : Fraction) → x.num *ℤ pos y.den ≡ y.num *ℤ pos x.den → x ≡ y
same_crosswise x y e =
    let sizes : unsigned_abs x.num * y.den ≡ unsigned_abs y.num * x.den =
    sym (unsigned_abs-mul x.num (pos y.den)) ∙ ap unsigned_abs e ∙ unsigned_abs-mul y.num (pos x.den) in
    let d : x.den ≡ y.den = lowest-denominator (unsigned_abs x.num) x.den (unsigned_abs y.num) y.den x.lowest y.lowest sizes in
    same_parts x y (cancel_factor x.den x.num y.num x.positive (ap (λ z. x.num *ℤ pos z) d ∙ e)) d

-- p / (n + 1) and r / (m + 1) are one where they are equal crosswise
pub over-eq : (p r : ℤ) (n m : ℕ) → p *ℤ pos (suc m) ≡ r *ℤ pos (suc n) → over p n ≡ over r m
over-eq p r n m e =
    let x = over p n in
    let y = over r m in
    let scaled : (x.num *ℤ pos y.den) *ℤ (pos (suc n) *ℤ pos (suc m)) ≡ (y.num *ℤ pos x.den) *ℤ (pos (suc n) *ℤ pos (suc m)) =
    swap_middle x.num (pos y.den) (pos (suc n)) (pos (suc m))
    ∙ ap (λ z. z *ℤ (pos y.den *ℤ pos (suc m))) (over-is p n)
    ∙ turn p (pos x.den) (pos y.den) (pos (suc m))
    ∙ ap (λ z. z *ℤ (pos x.den *ℤ pos y.den)) e
    ∙ turn' r (pos x.den) (pos y.den) (pos (suc n))
    ∙ ap (λ z. z *ℤ (pos x.den *ℤ pos (suc n))) (sym (over-is r m))
    ∙ turn'' y.num (pos x.den) (pos (suc n)) (pos (suc m)) in
    same_crosswise x y (cancel_factor (suc n * suc m) _ _ (omega arith) scaled)
  where
    turn : (p x y m : ℤ) → (p *ℤ x) *ℤ (y *ℤ m) ≡ (p *ℤ m) *ℤ (x *ℤ y)
    turn = each _ (λ a a'. each _ (λ b b'. each _ (λ c c'. each _ (λ d d'. simp diffs (diff-eq _ _ _ _ (omega arith))))))

    turn' : (r x y n : ℤ) → (r *ℤ n) *ℤ (x *ℤ y) ≡ (r *ℤ y) *ℤ (x *ℤ n)
    turn' = each _ (λ a a'. each _ (λ b b'. each _ (λ c c'. each _ (λ d d'. simp diffs (diff-eq _ _ _ _ (omega arith))))))

    turn'' : (y x n m : ℤ) → (y *ℤ m) *ℤ (x *ℤ n) ≡ (y *ℤ x) *ℤ (n *ℤ m)
    turn'' = each _ (λ a a'. each _ (λ b b'. each _ (λ c c'. each _ (λ d d'. simp diffs (diff-eq _ _ _ _ (omega arith))))))

-- a fraction is its numerator over its denominator
pub over-parts : (x : Fraction) → over x.num (x.den - 1) ≡ x
over-parts x =
    let d : suc (x.den - 1) ≡ x.den = omega (arith, x.positive) in
    same_crosswise (over x.num (x.den - 1)) x (ap (λ z. (over x.num (x.den - 1)).num *ℤ pos z) (sym d) ∙ over-is x.num (x.den - 1))

-- what holds of each p / (n + 1) holds of each fraction
pub each_fraction : (P : Fraction → Type 0) → ((p : ℤ) (n : ℕ) → P (over p n)) → (x : Fraction) → P x
each_fraction P h x = subst P (over-parts x) (h x.num (x.den - 1))

-- a fraction is stored as its two numbers
abbrev pub fraction_code : Coded Fraction
fraction_code = code_by (ℤ × ℕ) (coded× coded_ℤ coded_ℕ) (λ x. (x.num, x.den)) (λ p. over p.0 (p.1 - 1)) over-parts

-- ---- operations

infixl 6 ◌+ℚ◌
-- a/b + c/d is (a*d + c*b) / (b*d), in lowest terms
unfoldable pub ◌+ℚ◌ : Fraction → Fraction → Fraction
x +ℚ y = over (x.num *ℤ pos y.den +ℤ y.num *ℤ pos x.den) (x.den * y.den - 1)

infixl 7 ◌*ℚ◌
-- a/b * c/d is (a*c) / (b*d), in lowest terms
unfoldable pub ◌*ℚ◌ : Fraction → Fraction → Fraction
x *ℚ y = over (x.num *ℤ y.num) (x.den * y.den - 1)

-- the negative of a/b is -a/b
unfoldable pub neg_ℚ : Fraction → Fraction
neg_ℚ x = over (neg_ℤ x.num) (x.den - 1)

infixl 6 ◌-ℚ◌
-- a difference is the sum with the negative
abbrev pub ◌-ℚ◌ : Fraction → Fraction → Fraction
x -ℚ y = x +ℚ neg_ℚ y

-- the numerator of the reciprocal: the denominator, with the numerator's sign
abbrev pub signed_as : ℤ → ℕ → ℤ
signed_as (pos zero) n = pos 0
signed_as (pos (suc a)) n = pos n
signed_as (negsuc a) n = neg_ℤ (pos n)

-- the reciprocal of a/b is b/a; of zero it is zero
unfoldable pub reciprocal_ℚ : Fraction → Fraction
reciprocal_ℚ x = over (signed_as x.num x.den) (unsigned_abs x.num - 1)

infixl 7 ◌/ℚ◌
-- a quotient is the product with the reciprocal
abbrev pub ◌/ℚ◌ : Fraction → Fraction → Fraction
x /ℚ y = x *ℚ reciprocal_ℚ y

-- the whole number k
abbrev pub whole : ℤ → Fraction
whole k = over k 0

-- 0/1
abbrev pub zero_ℚ : Fraction
zero_ℚ = whole (pos 0)

-- 1/1
abbrev pub one_ℚ : Fraction
one_ℚ = whole (pos 1)
