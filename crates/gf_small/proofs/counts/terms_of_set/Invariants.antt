use Rattle.gf_small.proofs.CountsLaws.{TermsSoFar}
use Rattle.gf_small.proofs.counts.terms_of_set.Given as goal

abbrev pub invariant-members : goal.invariant-members
invariant-members l = TermsSoFar l.items l.sum l.i
