use Rattle.std.proofs.Common.{◌≡◌, length, take}
use Rattle.gf_saturate.specs.Marks.{CoverHeads}
use Rattle.gf_saturate.proofs.marks.marks_of.Given as goal

abbrev pub invariant-members : goal.invariant-members
invariant-members l = (length l.all ≡ l.n) × CoverHeads (take l.i l.items) l.all
