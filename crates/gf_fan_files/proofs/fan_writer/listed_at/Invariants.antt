use Rattle.std.proofs.Common.{◌≡◌, take}
use Rattle.gf_fan_files.specs.FanTexts.{listed_at}
use Rattle.gf_fan_files.proofs.fan_writer.listed_at.Given as goal

-- the places so far
abbrev pub invariant-places : goal.invariant-places
invariant-places l = l.out.items ≡ listed_at l.cones (take l.place-index l.places)
