use Rattle.std.proofs.Common.{ℕ, ◌<◌, get_or}
use Rattle.gf_fan_files.proofs.file.first_above.Given as goal

abbrev pub invariant-loop-k : goal.invariant-loop-k
invariant-loop-k l = (i d : ℕ) → i < l.k-index → get_or l.numbers i d < l.count
