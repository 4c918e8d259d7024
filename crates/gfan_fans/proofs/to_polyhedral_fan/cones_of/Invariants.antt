use Rattle.std.proofs.Common.{take}
use Rattle.std.specs.List.{AllZip}
use Rattle.gfan_fans.specs.ToPolyhedralFan.{IsConeOfSet}
use Rattle.gfan_fans.proofs.to_polyhedral_fan.cones_of.Given as goal

-- the cones of the sets so far
abbrev pub invariant-sets : goal.invariant-sets
invariant-sets l = AllZip (IsConeOfSet l.cut) (take l.set-index l.sets) l.cones.items
