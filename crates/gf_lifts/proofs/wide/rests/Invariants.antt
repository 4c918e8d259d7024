use Rattle.std.proofs.Common.{take}
use Rattle.gf_lifts.specs.LiftsInTurn.{AreRests}
use Rattle.gf_lifts.proofs.wide.rests.Given as goal

abbrev pub invariant-members : goal.invariant-members
invariant-members l = AreRests l.set.items (take l.i l.below) l.all.items
