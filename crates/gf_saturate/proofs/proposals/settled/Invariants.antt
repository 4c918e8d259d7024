use Rattle.gf_saturate.specs.Proposals.{AreProposals}
use Rattle.gf_saturate.proofs.proposals.settled.Given as goal

abbrev pub invariant-pairs : goal.invariant-pairs
invariant-pairs l = AreProposals l.n l.set l.work.members.items
