use Rattle.std.proofs.Common.{◌≡◌, ◌+◌, length, take}
use Rattle.gf_saturate.specs.Marks.{CoverFreeHeads}
use Rattle.gf_saturate.proofs.marks.free_marks.Given as goal

abbrev pub invariant-members : goal.invariant-members
invariant-members l = (length l.all ≡ l.n + 1) × CoverFreeHeads l.n (take l.i l.items) l.all
