-- Numbers of 64 bits: as ones of 128, and their products.
use Rattle.std.proofs.Common.{ℤ, ◌*ℤ◌, ◌^◌, ◌≤◌, unsigned_abs, FitsSigned, arith}
use Rattle.std.specs.Int.{w64, w128}
use Rattle.std.proofs.lemmas.Int.{ints, unsigned_abs-mul, fits_signed_from_abs}
use Rattle.std.proofs.lemmas.Nat.{mul-le}
use Rattle.gf_int_theory.specs.Range.{InRange}

-- it is one of 128 bits
pub widened : (x : ℤ) → FitsSigned w64 x → FitsSigned w128 x
widened x h = fits_signed_from_abs w128 x (omega (arith, ints))

-- a product is within 2^126
product_bound : (x y : ℤ) → FitsSigned w64 x → FitsSigned w64 y → unsigned_abs (x *ℤ y) ≤ 2 ^ 126
product_bound x y h k =
    rw unsigned_abs-mul (mul-le (unsigned_abs x) (unsigned_abs y) (2 ^ 63) (2 ^ 63) (omega (arith, ints)) (omega (arith, ints)))

-- so it is one of 128 bits
pub product_fits : (x y : ℤ) → FitsSigned w64 x → FitsSigned w64 y → FitsSigned w128 (x *ℤ y)
product_fits x y h k = fits_signed_from_abs w128 _ (omega (arith, product_bound x y h k))

-- and in the range of the numbers that are kept
pub product_range : (x y : ℤ) → FitsSigned w64 x → FitsSigned w64 y → InRange (x *ℤ y)
product_range x y h k = record { within = omega (arith, product_bound x y h k) }
