use Rattle.std.proofs.Common.{take}
use Rattle.std.specs.List.{AllZip}
use Rattle.gf_fan_files.specs.FilesFans.{IsConeOfFile}
use Rattle.gf_fan_files.proofs.fan.cones_of.Given as goal

-- the cones of the lists so far
abbrev pub invariant-lists : goal.invariant-lists
invariant-lists l = AllZip (IsConeOfFile l.file) (take l.list-index l.lists) l.cones.items
