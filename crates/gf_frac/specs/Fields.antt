-- What a `Frac` keeps of its two numbers: lowest terms, both within the range.
use Rattle.std.specs.Int.{IsGcd}
use Rattle.std.specs.Int.RustNames.{unsigned_abs}
use Rattle.std.proofs.Common.{◌≡◌, ℕ, ◌-◌, ◌<◌, ◌^◌, ℤ, ap}
use Rattle.gf_int_theory.specs.Range.{InRange}
use Rattle.gf_frac.specs.Fraction.{Fraction, over, over-parts}

-- p/q is in lowest terms, and both numbers are in range
pub record IsLowest (p : ℤ) (q : ℕ) : Type 0 where
  pub positive : 0 < q
  pub numerator : InRange p
  pub denominator : q < 2 ^ 127
  pub lowest : IsGcd (unsigned_abs p) q 1

-- the numbers of the fraction p/q are p and q
pub parts_back : (p : ℤ) (q : ℕ) → IsLowest p q → ((over p (q - 1)).num ≡ p) × ((over p (q - 1)).den ≡ q)
parts_back p q h =
    let x : Fraction = record { num = p; den = q; positive = h.positive; lowest = h.lowest } in
    (ap (λ y. y.num) (over-parts x), ap (λ y. y.den) (over-parts x))
