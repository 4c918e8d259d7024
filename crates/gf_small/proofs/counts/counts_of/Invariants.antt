use Rattle.gf_small.proofs.CountsLaws.{CountsSoFar}
use Rattle.gf_small.proofs.counts.counts_of.Given as goal

abbrev pub invariant-sets : goal.invariant-sets
invariant-sets l = CountsSoFar l.sets l.counts l.i
