use Rattle.std.proofs.Common.{take}
use Rattle.gf_lifts.specs.LiftsInTurn.{AreLiftsIn}
use Rattle.gf_lifts.proofs.wide.lifts_in.Given as goal

abbrev pub invariant-members : goal.invariant-members
invariant-members l = AreLiftsIn l.done (take l.i l.below) l.all.items
