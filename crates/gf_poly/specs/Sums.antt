-- Sums and differences of polynomials, and where the sum of two coefficients leaves the range.
-- Operands are given as they stand in f and g, so that of a difference the second is what is taken away.
-- Laws: proofs/MergeLaws.antt.
use Rattle.std.specs.Prelude.{◌≡◌, ◌≢◌, ◌⊎◌, [], ◌∷◌, ◌++◌, Contains}
use Rattle.std.specs.declared.cmp.Ordering.TheVariants.{Greater}
use Rattle.gf_frac.specs.Fraction.{Fraction, ◌+ℚ◌, neg_ℚ, zero_ℚ}
use Rattle.gf_frac.specs.Fits.{Fits}
use Rattle.gf_frac.specs.declared.refusal.Overflow.{Overflow}
use Rattle.gf_frac.specs.declared.refusal.Op.{Op}
use Rattle.gf_frac.specs.declared.refusal.Op.TheVariants.{Add, Sub}
use Rattle.gf_exponents_theory.specs.Exponents.{Exponents}
use Rattle.gf_exponents_theory.specs.Orders.{deglex}
use Rattle.gf_poly.specs.declared.Term.{Term}
use Rattle.gf_poly.specs.declared.error.PolyError.{PolyError}
use Rattle.gf_poly.specs.Refusals.{ByKind}
use Rattle.gf_poly.specs.declared.merge.Sign.{Sign}
use Rattle.gf_poly.specs.declared.merge.Sign.TheVariants.{Plus, Minus}
use Rattle.gf_poly.specs.Polynomial.{Terms, coefficient}

-- h is the sum of f and g
abbrev pub IsPolynomialSum : Terms → Terms → Terms → Type 0
IsPolynomialSum f g h = (e : Exponents) → coefficient h e ≡ coefficient f e +ℚ coefficient g e

-- h is f less g
abbrev pub IsDifference : Terms → Terms → Terms → Type 0
IsDifference f g h = (e : Exponents) → coefficient h e ≡ coefficient f e +ℚ neg_ℚ (coefficient g e)

-- like terms s of f and t of g
pub record AreLike (f g : Terms) (s t : Term) : Type 0 where
  pub left : Contains f s
  pub right : Contains g t
  pub monomial : s.mono ≡ t.mono

-- the operation on the coefficients of like terms of f and g stays in range
pub record LikeTermsFit (op : Op) (f g : Terms) : Type 0 where
  pub at : (s t : Term) → AreLike f g s t → Fits op s.coef t.coef

-- o is the operation on the coefficients of the greatest like terms of which it leaves the range
pub record IsLikeOverflow (op : Op) (f g : Terms) (o : Overflow) : Type 0 where
  pub operation : o.op ≡ op
  pub at : Exponents
  pub like : AreLike f g (record { coef = o.left; mono = at }) (record { coef = o.right; mono = at })
  pub leaves : ¬ (Fits op o.left o.right)
  pub above : (s t : Term) → AreLike f g s t → deglex s.mono at ≡ Greater → Fits op s.coef t.coef

-- why a sum or a difference is refused
abbrev pub IsLikeCause : Op → Terms → Terms → PolyError → Type 0
IsLikeCause op f g = ByKind (IsLikeOverflow op f g) (λ o. ⊥)

-- ---- both at once

-- the operation with this sign
abbrev pub operation : Sign → Op
operation Plus = Add
operation Minus = Sub

-- a coefficient with this sign
abbrev pub signed : Sign → Fraction → Fraction
signed Plus c = c
signed Minus c = neg_ℚ c

-- h is f and g with this sign
abbrev pub IsSignedSum : Sign → Terms → Terms → Terms → Type 0
IsSignedSum sign f g h = (e : Exponents) → coefficient h e ≡ coefficient f e +ℚ signed sign (coefficient g e)

-- t is added at the end, unless it is zero
abbrev pub PushesNonzero : Terms → Terms → Term → Type 0
PushesNonzero old new t = ((t.coef ≡ zero_ℚ) × (new ≡ old)) ⊎ ((t.coef ≢ zero_ℚ) × (new ≡ old ++ t ∷ []))
