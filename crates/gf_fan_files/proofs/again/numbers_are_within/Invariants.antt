use Rattle.std.proofs.Common.{ℕ, ◌<◌, ◌≤◌, get_or}
use Rattle.gf_fan_files.specs.ConeText.{most_number}
use Rattle.gf_fan_files.proofs.again.numbers_are_within.Given as goal

abbrev pub invariant-numbers : goal.invariant-numbers
invariant-numbers l = (k d : ℕ) → k < l.number-index → get_or l.numbers k d ≤ most_number
