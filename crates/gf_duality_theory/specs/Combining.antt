-- The sum or difference of multiples of two vectors, and its operations.
use Rattle.std.specs.Prelude.{ℕ, ◌<◌, List, ℤ, ◌*ℤ◌, neg_ℤ, ◌⊎◌, length}
use Rattle.gf_int_theory.specs.Content.{scaled}
use Rattle.gf_vec.specs.declared.error.VecOp.{VecOp}
use Rattle.gf_vec.specs.declared.error.VecOp.TheVariants.{Add, Sub, Mul}
use Rattle.gf_vec.specs.Vector.{dot, vector_sum, entry_at}
use Rattle.gf_gordan.specs.declared.error.ConeOverflow.{ConeOverflow}
use Rattle.gf_gordan.specs.Steps.{IsWideStep}

-- a step of a * x + b * y, or of a * x - b * y: two products, and the sum or difference
abbrev pub IsMixStep : ℕ → VecOp → ℤ → ℤ → ℤ → ℤ → ConeOverflow → Type 0
IsMixStep row op a x b y s = IsWideStep row Mul a x s ⊎ IsWideStep row Mul b y s ⊎ IsWideStep row op (a *ℤ x) (b *ℤ y) s

-- a step of that at some entry_at
abbrev pub IsCombining : ℕ → VecOp → ℤ → List ℤ → ℤ → List ℤ → ConeOverflow → Type 0
IsCombining row op a xs b ys s = (i : ℕ) × (i < length xs) × IsMixStep row op a (entry_at xs i) b (entry_at ys i) s

-- the factor by its sign in a sum or difference
abbrev pub signed_by : VecOp → ℤ → ℤ
signed_by Add b = b
signed_by Sub b = neg_ℤ b
signed_by Mul b = b

-- the combination of p and q that is zero at h: h.p scaled q, less h.q scaled p
abbrev pub pair : List ℤ → List ℤ → List ℤ → List ℤ
pair h p q = vector_sum (scaled (dot h p) q) (scaled (neg_ℤ (dot h q)) p)
