use Rattle.gf_refine.proofs.PairLaws.{MetSoFar}
use Rattle.gf_refine.proofs.pairs.met_pairs.Given as goal

abbrev pub invariant-loop-k : goal.invariant-loop-k
invariant-loop-k l = MetSoFar l.held.items l.others.items l.width l.k l.out.items
