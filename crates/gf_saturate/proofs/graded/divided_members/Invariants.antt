use Rattle.std.proofs.Common.{take}
use Rattle.gf_saturate.specs.Graded.{AreDividedMembers}
use Rattle.gf_saturate.proofs.graded.divided_members.Given as goal

abbrev pub invariant-members : goal.invariant-members
invariant-members l = AreDividedMembers l.n l.k (take l.i l.items) l.all.items
