use Rattle.std.proofs.Common.{ℕ, ◌<◌, List, ℤ, get_or}
use Rattle.gf_fan_files.specs.Files.{IsOutside}
use Rattle.gf_fan_files.proofs.file.check_rays.Given as goal

abbrev pub invariant-loop-place : goal.invariant-loop-place
invariant-loop-place l = (k : ℕ) (d : List ℤ) → k < l.place → IsOutside l.n l.lineality (get_or l.rays k d)
