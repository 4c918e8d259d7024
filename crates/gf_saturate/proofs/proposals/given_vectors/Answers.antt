use Rattle.gf_saturate.proofs.StepLaws.{contains_at}
use Rattle.gf_saturate.proofs.ProposalLaws.{none_yet, proposal_more}
use Rattle.gf_saturate.proofs.proposals.given_vectors.Goals as goal

pub polynomials-init : goal.polynomials-init
polynomials-init c = none_yet c.args.n c.args.set.now _ c.in_ok-all.ensures.items

pub given_vector-requires-clause-inside : goal.given_vector-requires-clause-inside
given_vector-requires-clause-inside c = contains_at c.args.set.now c.polynomials.i c.index-set-i.result c.polynomials-test.true c.index-set-i.is

pub polynomials-preserved : goal.polynomials-preserved
polynomials-preserved c =
    proposal_more c.args.n c.args.set.now c.polynomials.all.items _ c.in-Some.v c.in_ok-push.ensures.items c.polynomials.invariant c.in-Some.ensures
