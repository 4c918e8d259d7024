use Rattle.std.proofs.Common.{take}
use Rattle.gf_strands.specs.Along.{IsSelected}
use Rattle.gf_strands.proofs.AlongLaws.{IsTermAlong}
use Rattle.gf_strands.proofs.along.part.Given as goal

abbrev pub invariant-terms : goal.invariant-terms
invariant-terms l = IsSelected (IsTermAlong l.normal l.head) (take l.i l.terms) l.kept.items
