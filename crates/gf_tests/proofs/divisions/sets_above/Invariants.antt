use Rattle.std.proofs.Common.{take}
use Rattle.gf_poly.specs.Marking.{Each}
use Rattle.gf_division.proofs.WeighedMarks.{IsWithin}
use Rattle.gf_tests.proofs.divisions.sets_above.Given as goal

abbrev pub invariant-terms : goal.invariant-terms
invariant-terms l = Each (IsWithin l.weight l.head) (take l.i l.terms)
