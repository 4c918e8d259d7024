use Rattle.std.proofs.Common.{take}
use Rattle.gf_flip.specs.Limits.{HaveMonomialsAlone}
use Rattle.gf_flip.proofs.limits.see_members.Given as goal

abbrev pub invariant-members : goal.invariant-members
invariant-members l = HaveMonomialsAlone (take l.i l.items)
