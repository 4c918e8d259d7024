use Rattle.std.proofs.Common.{ℕ, ◌<◌, List, get_or}
use Rattle.gf_fan_files.specs.Files.{AreBelow}
use Rattle.gf_fan_files.proofs.file.check_numbers.Given as goal

abbrev pub invariant-loop-cone : goal.invariant-loop-cone
invariant-loop-cone l = (i : ℕ) (d : List ℕ) → i < l.cone-index → AreBelow l.count (get_or l.cones i d)
