-- Monomials some multiple of a vector apart, and monomials that are lighter or further along it.
use Rattle.std.specs.Prelude.{◌≡◌, ◌⊎◌, ℕ, ◌≤◌, List, get_or, ℤ, pos, ◌+ℤ◌, ◌*ℤ◌, ◌<ℤ◌}
use Rattle.gf_exponents_theory.specs.Exponents.{Exponents, entry, whole_weight}

-- y is x and k times a
abbrev pub IsStepsFrom : ℕ → List ℤ → Exponents → Exponents → Type 0
IsStepsFrom k a x y = (i : ℕ) → pos (entry y i) ≡ pos (entry x i) +ℤ pos k *ℤ get_or a i (pos 0)

-- x is y and k times a, k at least 1
abbrev pub IsFurther : List ℤ → Exponents → Exponents → Type 0
IsFurther a x y = (k : ℕ) × (1 ≤ k) × IsStepsFrom k a y x

-- x is lighter by v than y, or further along a
abbrev pub IsBeyond : List ℤ → List ℤ → Exponents → Exponents → Type 0
IsBeyond v a x y = (whole_weight v x <ℤ whole_weight v y) ⊎ IsFurther a x y
