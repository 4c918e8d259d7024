use Rattle.gf_saturate.specs.Proposals.{IsProposal}
use Rattle.gf_saturate.proofs.proposals.reduced.Given as goal

abbrev pub invariant-steps : goal.invariant-steps
invariant-steps l = IsProposal l.n l.set l.left
