-- The laws of fractions, each a statement that a function of `src/laws.rt` ensures.
use Rattle.std.specs.Prelude.{◌≡◌, ◌↔◌, IsTrue, pos, ◌+ℤ◌, ◌*ℤ◌, ◌*◌}
use Rattle.gf_frac.specs.Fraction.{Fraction, ◌+ℚ◌, ◌*ℚ◌, neg_ℚ, reciprocal_ℚ, zero_ℚ, one_ℚ}
use Rattle.gf_frac.specs.Equality.{fraction_eq}

-- sums and products form a commutative ring
pub record IsCommutativeRing : Type 0 where
  pub sum_comm : (x y : Fraction) → x +ℚ y ≡ y +ℚ x
  pub sum_assoc : (x y z : Fraction) → (x +ℚ y) +ℚ z ≡ x +ℚ (y +ℚ z)
  pub sum_zero : (x : Fraction) → x +ℚ zero_ℚ ≡ x
  pub sum_neg : (x : Fraction) → x +ℚ neg_ℚ x ≡ zero_ℚ
  pub product_comm : (x y : Fraction) → x *ℚ y ≡ y *ℚ x
  pub product_assoc : (x y z : Fraction) → (x *ℚ y) *ℚ z ≡ x *ℚ (y *ℚ z)
  pub product_one : (x : Fraction) → x *ℚ one_ℚ ≡ x
  pub product_sum : (x y z : Fraction) → x *ℚ (y +ℚ z) ≡ x *ℚ y +ℚ x *ℚ z

-- and a field: a nonzero fraction times its reciprocal is one, and zero isn't one
pub record IsField : Type 0 where
  pub ring : IsCommutativeRing
  pub reciprocal : (x : Fraction) → ¬ (x ≡ zero_ℚ) → x *ℚ reciprocal_ℚ x ≡ one_ℚ
  pub distinct : ¬ (zero_ℚ ≡ one_ℚ)

-- a sum or a product of p/q and r/s is what school says, crosswise
pub record IsSchoolArithmetic : Type 0 where
  pub sum : (x y : Fraction) → (x +ℚ y).num *ℤ pos (x.den * y.den) ≡ (x.num *ℤ pos y.den +ℤ y.num *ℤ pos x.den) *ℤ pos (x +ℚ y).den
  pub product : (x y : Fraction) → (x *ℚ y).num *ℤ pos (x.den * y.den) ≡ (x.num *ℤ y.num) *ℤ pos (x *ℚ y).den

-- fractions compare equal exactly where they are one
abbrev pub EqualityIsIdentity : Type 0
EqualityIsIdentity = (x y : Fraction) → IsTrue (fraction_eq x y) ↔ (x ≡ y)
