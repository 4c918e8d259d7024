use Rattle.gf_saturate.specs.Proposals.{AreProposals}
use Rattle.gf_saturate.proofs.proposals.given_vectors.Given as goal

abbrev pub invariant-polynomials : goal.invariant-polynomials
invariant-polynomials l = AreProposals l.n l.set l.all.items
