use Rattle.std.proofs.Common.{ℕ, ◌<◌, get_or}
use Rattle.gf_fan.specs.declared.cones.FanCone.{FanCone}
use Rattle.gf_fan_files.specs.FansAgain.{IsWritableCone}
use Rattle.gf_fan_files.specs.FanTexts.{listed_cone}
use Rattle.gf_fan_files.proofs.again.fan_cones_are_writable.Given as goal

abbrev pub invariant-cones : goal.invariant-cones
invariant-cones l = (k : ℕ) (d : FanCone) → k < l.cone-index → IsWritableCone (listed_cone (get_or l.cones k d))
