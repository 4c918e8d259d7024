use Rattle.std.proofs.Common.{◌≡◌, ℕ, ◌<◌, List, ℤ, get_or, length}
use Rattle.gf_fan_files.proofs.file.check_lengths.Given as goal

abbrev pub invariant-loop-row : goal.invariant-loop-row
invariant-loop-row l = (k : ℕ) (d : List ℤ) → k < l.row-index → length (get_or l.rows k d) ≡ l.n
