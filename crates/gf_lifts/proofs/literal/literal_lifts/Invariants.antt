use Rattle.std.proofs.Common.{take}
use Rattle.gf_lifts.proofs.LiftSteps.{AreLifting}
use Rattle.gf_lifts.proofs.literal.literal_lifts.Given as goal

abbrev pub invariant-members : goal.invariant-members
invariant-members l = AreLifting l.by.variables l.by.items (take l.i l.items) l.all.items
