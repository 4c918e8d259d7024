-- The numbers of each operation's working, and when they are in range.
-- The range is from -(2^127 - 1) to 2^127 - 1. An operation is refused exactly where one of these numbers is outside.
use Rattle.std.specs.Prelude.{◌≡◌, ℕ, ◌-◌, ◌*◌, ◌/◌, ◌<◌, ◌^◌, ℤ, pos, ◌+ℤ◌, ◌*ℤ◌}
use Rattle.std.specs.Int.RustNames.{unsigned_abs, int_div}
use Rattle.gf_int_theory.specs.Gcd.{gcd}
use Rattle.gf_int_theory.specs.Range.{InRange}
use Rattle.gf_frac.specs.Fraction.{Fraction, over, neg_ℚ, reciprocal_ℚ}
use Rattle.gf_frac.specs.Fields.{IsLowest}
use Rattle.gf_frac.specs.declared.refusal.Op.{Op}
use Rattle.gf_frac.specs.declared.refusal.Op.TheVariants.{Add, Sub, Mul, Div}

-- ---- sums: a/b + c/d, with g = gcd(b, d)

-- a * (d/g) + c * (b/g)
abbrev pub sum_numerator : ℤ → ℕ → ℤ → ℕ → ℤ
sum_numerator a b c d = a *ℤ pos (d / gcd b d) +ℤ c *ℤ pos (b / gcd b d)

-- b * (d/g)
abbrev pub sum_denominator : ℕ → ℕ → ℕ
sum_denominator b d = b * (d / gcd b d)

-- both products, their sum and the common denominator are in range
pub record FitsSum (a : ℤ) (b : ℕ) (c : ℤ) (d : ℕ) : Type 0 where
  pub left : InRange (a *ℤ pos (d / gcd b d))
  pub right : InRange (c *ℤ pos (b / gcd b d))
  pub sum : InRange (sum_numerator a b c d)
  pub denominator : sum_denominator b d < 2 ^ 127

-- the sum of two fractions stays in range
abbrev pub FitsAdd : Fraction → Fraction → Type 0
FitsAdd x y = FitsSum x.num x.den y.num y.den

-- their difference does: it is the sum with the negative
abbrev pub FitsSub : Fraction → Fraction → Type 0
FitsSub x y = FitsAdd x (neg_ℚ y)

-- ---- products: a/b * c/d, with g = gcd(a, d) and h = gcd(c, b)

-- (a/g) * (c/h)
abbrev pub product_numerator : ℤ → ℕ → ℤ → ℕ → ℤ
product_numerator a b c d = int_div a (pos (gcd (unsigned_abs a) d)) *ℤ int_div c (pos (gcd (unsigned_abs c) b))

-- (b/h) * (d/g)
abbrev pub product_denominator : ℤ → ℕ → ℤ → ℕ → ℕ
product_denominator a b c d = (b / gcd (unsigned_abs c) b) * (d / gcd (unsigned_abs a) d)

-- both are in range
pub record FitsProduct (a : ℤ) (b : ℕ) (c : ℤ) (d : ℕ) : Type 0 where
  pub numerator : InRange (product_numerator a b c d)
  pub denominator : product_denominator a b c d < 2 ^ 127

-- the product of two fractions stays in range
abbrev pub FitsMul : Fraction → Fraction → Type 0
FitsMul x y = FitsProduct x.num x.den y.num y.den

-- their quotient does: it is the product with the reciprocal
abbrev pub FitsDiv : Fraction → Fraction → Type 0
FitsDiv x y = FitsMul x (reciprocal_ℚ y)

-- ---- by operation

-- the operation on x and y stays in range
abbrev pub Fits : Op → Fraction → Fraction → Type 0
Fits Add x y = FitsAdd x y
Fits Sub x y = FitsSub x y
Fits Mul x y = FitsMul x y
Fits Div x y = FitsDiv x y

-- ---- what the code works out

-- r is the sum in lowest terms, and its working stayed in range
pub record IsSum (a : ℤ) (b : ℕ) (c : ℤ) (d : ℕ) (r : ℤ × ℕ) : Type 0 where
  pub fits : FitsSum a b c d
  pub lowest : IsLowest r.0 r.1
  pub value : over r.0 (r.1 - 1) ≡ over (sum_numerator a b c d) (sum_denominator b d - 1)

-- r is the numerator and the denominator of a sum's working, in range, and the denominators' common divisor
pub record IsSumWorking (a : ℤ) (b : ℕ) (c : ℤ) (d : ℕ) (r : ℤ × ℕ × ℕ) : Type 0 where
  pub fits : FitsSum a b c d
  pub numerator : r.0 ≡ sum_numerator a b c d
  pub denominator : r.1 ≡ sum_denominator b d
  pub divisor : r.2 ≡ gcd b d

-- r is the product in lowest terms, and its working stayed in range
pub record IsProduct (a : ℤ) (b : ℕ) (c : ℤ) (d : ℕ) (r : ℤ × ℕ) : Type 0 where
  pub fits : FitsProduct a b c d
  pub lowest : IsLowest r.0 r.1
  pub value : over r.0 (r.1 - 1) ≡ over (product_numerator a b c d) (product_denominator a b c d - 1)

-- r is p/q in lowest terms
pub record IsReduced (p : ℤ) (q : ℕ) (r : ℤ × ℕ) : Type 0 where
  pub lowest : IsLowest r.0 r.1
  pub value : over r.0 (r.1 - 1) ≡ over p (q - 1)
