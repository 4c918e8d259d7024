use Rattle.std.proofs.Common.{◌≡◌, take}
use Rattle.gf_fan_files.specs.FanTexts.{listed_cones}
use Rattle.gf_fan_files.proofs.fan_writer.listed_cones.Given as goal

-- the cones so far
abbrev pub invariant-cones : goal.invariant-cones
invariant-cones l = l.out.items ≡ listed_cones (take l.cone-index l.cones)
