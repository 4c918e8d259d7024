use Rattle.std.proofs.Common.{◌≡◌, take, map}
use Rattle.gf_cuts.specs.Heights.{heights}
use Rattle.gf_cuts.proofs.heights.table.Given as goal

abbrev pub invariant-loop-point : goal.invariant-loop-point
invariant-loop-point l = l.out.items ≡ map (heights l.vectors.items) (take l.point-index l.points)
