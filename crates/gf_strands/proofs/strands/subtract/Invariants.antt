use Rattle.std.proofs.Common.{take}
use Rattle.gf_strands.specs.Strands.{IsSubtracted}
use Rattle.gf_strands.proofs.strands.subtract.Given as goal

abbrev pub invariant-points : goal.invariant-points
invariant-points l = IsSubtracted l.p (take l.j l.rest) l.initial.work.items l.work.items
