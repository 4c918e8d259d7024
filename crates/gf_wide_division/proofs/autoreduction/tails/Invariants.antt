use Rattle.std.proofs.Common.{take}
use Rattle.gf_division.proofs.AutoreductionLaws.{AreTails}
use Rattle.gf_wide_division.proofs.autoreduction.tails.Given as goal

abbrev pub invariant-members : goal.invariant-members
invariant-members l = AreTails l.members (take l.i l.members) l.done.items
