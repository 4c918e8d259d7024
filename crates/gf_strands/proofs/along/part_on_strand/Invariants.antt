use Rattle.std.proofs.Common.{take}
use Rattle.gf_strands.proofs.AlongLaws.{IsStrandTo}
use Rattle.gf_strands.proofs.along.part_on_strand.Given as goal

abbrev pub invariant-terms : goal.invariant-terms
invariant-terms l = IsStrandTo l.normal l.member.head (take l.i l.terms) l.points.items
