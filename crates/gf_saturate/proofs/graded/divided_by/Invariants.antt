use Rattle.gf_saturate.proofs.GradedLaws.{IsGradedIndex}
use Rattle.gf_saturate.proofs.graded.divided_by.Given as goal

abbrev pub invariant-variables : goal.invariant-variables
invariant-variables l = IsGradedIndex l.n l.set l.left l.k l.polys.items
