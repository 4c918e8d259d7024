use Rattle.std.proofs.Common.{List, sym, subst}
use Rattle.gf_saturate.specs.declared.vectors.Vector.{Vector}
use Rattle.gf_saturate.specs.Proposals.{AreProposals}
use Rattle.gf_saturate.proofs.ProposalLaws.{proposal_more}
use Rattle.gf_saturate.proofs.proposals.add.Goals as goal

pub push_pairs-requires-clause-members : goal.push_pairs-requires-clause-members
push_pairs-requires-clause-members c = subst (λ (vs : List Vector). AreProposals c.args.n c.args.set.now vs) (sym c.as_slice.ensures.value) c.requires.members

pub returns : goal.returns
returns c =
    proposal_more c.args.n c.args.set.now c.args.work.now.members.items c.push-2.new.self.items c.args.v c.in_ok-push-2.ensures.items c.requires.members
    c.requires.vector
