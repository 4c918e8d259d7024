use Rattle.std.proofs.Common.{ℕ, ◌<◌, ◌≤◌, List, ℤ, All, get_or, unsigned_abs}
use Rattle.gf_fan_files.specs.RowText.{most_row_entry}
use Rattle.gf_fan_files.proofs.limits.rows_are_writable.Given as goal

abbrev pub invariant-rows : goal.invariant-rows
invariant-rows l = (k : ℕ) (d : List ℤ) → k < l.row-index → All (λ z. unsigned_abs z ≤ most_row_entry) (get_or l.rows k d)
