use Rattle.std.proofs.Common.{take}
use Rattle.gf_strands.specs.Along.{AreAlong}
use Rattle.gf_strands.proofs.along.parts.Given as goal

abbrev pub invariant-members : goal.invariant-members
invariant-members l = AreAlong l.normal (take l.i l.items) l.all.items
