-- Why a call is refused, by the kind of the refusal. An overflow holds an operation on coefficients and its two operands, an
-- overflow of exponents the two exponents that are added; of memory nothing is told.
use Rattle.std.specs.Prelude.{ℕ, ◌+◌, ◌≤◌, ◌^◌}
use Rattle.gf_frac.specs.Fraction.{Fraction}
use Rattle.gf_frac.specs.Fits.{Fits}
use Rattle.gf_frac.specs.declared.refusal.Op.{Op}
use Rattle.gf_frac.specs.declared.refusal.Overflow.{Overflow}
use Rattle.gf_poly.specs.declared.error.PolyError.{PolyError}
use Rattle.gf_poly.specs.declared.error.PolyError.TheVariants as errors
use Rattle.gf_poly.specs.declared.monomial.ExponentOverflow.{ExponentOverflow}

-- an overflow is one of these, or an overflow of exponents one of those, or there is no memory
abbrev pub ByKind : (Overflow → Type 0) → (ExponentOverflow → Type 0) → PolyError → Type 0
ByKind numbers exponents (errors.Overflow o) = numbers o
ByKind numbers exponents (errors.Exponent o) = exponents o
ByKind numbers exponents errors.Memory = Unit {0}

-- the operands of one of these operations don't fit, or the sum of two such exponents doesn't, or there is no memory
abbrev pub IsRefusedBy : (Op → Fraction → Fraction → Type 0) → (ℕ → ℕ → Type 0) → PolyError → Type 0
IsRefusedBy operations sums (errors.Overflow o) = operations o.op o.left o.right × ¬ (Fits o.op o.left o.right)
IsRefusedBy operations sums (errors.Exponent o) = sums o.left o.right × (2 ^ 31 ≤ o.left + o.right)
IsRefusedBy operations sums errors.Memory = Unit {0}

-- no operation on coefficients, and no sum of exponents
abbrev pub NoOperation : Op → Fraction → Fraction → Type 0
NoOperation op left right = ⊥

-- no sum of exponents
abbrev pub NoSum : ℕ → ℕ → Type 0
NoSum left right = ⊥

-- the refusal is such, unless there is no memory
abbrev pub UnlessMemory : (PolyError → Type 0) → PolyError → Type 0
UnlessMemory P (errors.Overflow o) = P (errors.Overflow o)
UnlessMemory P (errors.Exponent o) = P (errors.Exponent o)
UnlessMemory P errors.Memory = Unit {0}
