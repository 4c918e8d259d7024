use Rattle.gf_small.proofs.HomogenizationLaws.{FilledSoFar}
use Rattle.gf_small.proofs.homogenization.filled_terms.Given as goal

abbrev pub invariant-terms : goal.invariant-terms
invariant-terms l = FilledSoFar l.d l.terms l.all.items l.i
