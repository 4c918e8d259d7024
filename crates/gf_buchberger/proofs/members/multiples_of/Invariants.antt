use Rattle.std.proofs.Common.{◌≡◌, take}
use Rattle.gf_buchberger.proofs.members.multiples_of.Given as goal

abbrev pub invariant-members : goal.invariant-members
invariant-members l = l.members.items ≡ take l.i l.marked
