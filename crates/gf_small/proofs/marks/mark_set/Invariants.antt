use Rattle.gf_small.proofs.MarksByWeightLaws.{MarkedSoFar}
use Rattle.gf_small.proofs.marks.mark_set.Given as goal

abbrev pub invariant-polynomials : goal.invariant-polynomials
invariant-polynomials l = MarkedSoFar l.weight l.set l.found.items l.f-index
