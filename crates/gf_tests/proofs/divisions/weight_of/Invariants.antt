use Rattle.gf_division.proofs.WeighedMarks.{Weighing}
use Rattle.gf_tests.proofs.divisions.weight_of.Given as goal

abbrev pub invariant-entries : goal.invariant-entries
invariant-entries l = Weighing l.weight l.mono l.i l.sum
