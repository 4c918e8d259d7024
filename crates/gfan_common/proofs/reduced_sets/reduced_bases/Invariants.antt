use Rattle.std.proofs.Common.{take}
use Rattle.std.specs.List.{AllZip}
use Rattle.gfan_common.specs.ReducedSets.{IsReducedAsRead}
use Rattle.gfan_common.proofs.reduced_sets.reduced_bases.Given as goal

-- the bases of the sets so far
abbrev pub invariant-sets : goal.invariant-sets
invariant-sets l = AllZip IsReducedAsRead (take l.i l.sets) l.bases.items
