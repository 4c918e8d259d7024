use Rattle.std.proofs.Common.{List, arith, sym, subst}
use Rattle.gf_saturate.specs.declared.vectors.Vector.{Vector}
use Rattle.gf_saturate.specs.Proposals.{AreProposals}
use Rattle.gf_saturate.proofs.ProposalLaws.{proposal_at, turned_inside}
use Rattle.gf_saturate.proofs.proposals.left_of.Goals as goal

pub sum-requires-clause-right : goal.sum-requires-clause-right
sum-requires-clause-right c =
    turned_inside c.args.n c.args.set.now c.index-members-j.result.first c.index-members-j.result.second c.requires.variables
    (proposal_at c.args.n c.args.set.now c.as_slice-members.result.now c.args.pair.second c.index-members-j.result
    (subst (λ (vs : List Vector). AreProposals c.args.n c.args.set.now vs) (sym c.as_slice-members.ensures.value) c.requires.members)
    (omega (arith, c.if-members-j.false)) c.index-members-j.is)

pub reduced-requires-2-clause-members : goal.reduced-requires-2-clause-members
reduced-requires-2-clause-members c =
    subst (λ (vs : List Vector). AreProposals c.args.n c.args.set.now vs) (sym c.as_slice-members.ensures.value) c.requires.members
