use Rattle.gfan_common.proofs.PolynomialListLaws.{PolynomialsSoFar}
use Rattle.gfan_common.proofs.marked_sets.polynomials.Given as goal

abbrev pub invariant-members : goal.invariant-members
invariant-members l = PolynomialsSoFar l.set.variables l.items l.found.items l.b-index
