-- Whole weights as the program takes them.
use Rattle.std.specs.Prelude.{◌≡◌, ℕ, ◌^◌, ◌<◌, ◌≤◌, List, length, get_or, All, ℤ, pos, unsigned_abs, ◌<ℤ◌, ◌≤ℤ◌}
use Rattle.std.specs.Ordering.{MatchOrdering}
use Rattle.std.specs.declared.cmp.Ordering.{Ordering}
use Rattle.gf_exponents_theory.specs.Exponents.{Exponents, whole_weight}

-- each entry is within 2^63 in absolute value
abbrev pub AreBounded : List ℤ → Type 0
AreBounded ws = All (λ w. unsigned_abs w ≤ 2 ^ 63) ws

-- entry i is below the limit, and no entry before it is
pub record IsFirstBelow (limit : ℤ) (ws : List ℤ) (i : ℕ) : Type 0 where
  pub inside : i < length ws
  pub below : get_or ws i (pos 0) <ℤ limit
  pub before : (j : ℕ) → j < i → limit ≤ℤ get_or ws j (pos 0)

-- the weights of x and y compare so
abbrev pub CompareSo : List ℤ → Exponents → Exponents → Ordering → Type 0
CompareSo w x y r =
    MatchOrdering r (whole_weight w x <ℤ whole_weight w y) (whole_weight w x ≡ whole_weight w y) (whole_weight w y <ℤ whole_weight w x)
