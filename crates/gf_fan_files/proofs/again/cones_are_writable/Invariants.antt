use Rattle.std.proofs.Common.{ℕ, ◌<◌, get_or}
use Rattle.gf_fan_files.specs.declared.parts.ListedCone.{ListedCone}
use Rattle.gf_fan_files.specs.FansAgain.{IsWritableCone}
use Rattle.gf_fan_files.proofs.again.cones_are_writable.Given as goal

abbrev pub invariant-cones : goal.invariant-cones
invariant-cones l = (k : ℕ) (d : ListedCone) → k < l.cone-index → IsWritableCone (get_or l.cones k d)
