use Rattle.std.proofs.Common.{◌≡◌, take}
use Rattle.gf_fan_files.specs.FanTexts.{interiors_of, listed_at}
use Rattle.gf_fan_files.proofs.fan_writer.interiors.Given as goal

-- the places so far
abbrev pub invariant-places : goal.invariant-places
invariant-places l = l.out.items ≡ interiors_of l.fan.ambient l.fan.rays (listed_at l.fan.cones (take l.i l.fan.maximal))
