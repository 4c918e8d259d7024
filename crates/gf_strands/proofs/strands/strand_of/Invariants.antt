use Rattle.std.proofs.Common.{◌≡◌, ◌++◌, map, take, drop}
use Rattle.gf_strands.proofs.PointLaws.{relative_point}
use Rattle.gf_strands.proofs.strands.strand_of.Given as goal

abbrev pub invariant-points : goal.invariant-points
invariant-points l = l.rest.items ≡ map (relative_point l.first) (take l.i l.initial.rest.items) ++ drop l.i l.initial.rest.items
