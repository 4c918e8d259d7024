use Rattle.std.proofs.Common.{List, sym, subst}
use Rattle.gf_saturate.specs.declared.vectors.Vector.{Vector}
use Rattle.gf_saturate.specs.Proposals.{AreProposals}
use Rattle.gf_saturate.proofs.ProposalLaws.{start_itself, start_more, proposal_at}
use Rattle.gf_saturate.proofs.proposals.with_members.Goals as goal

pub members-init : goal.members-init
members-init c = start_itself c.args.n c.args.set.now c.in_ok-all.all.items c.requires.variables c.in_ok-all.ensures

pub members-preserved : goal.members-preserved
members-preserved c =
    start_more c.args.n c.args.set.now c.members.all.items c.push.new.self.items c.index-members-i.result c.in_ok-f.f c.in_ok-push.ensures.items
    c.requires.variables c.members.invariant
    (proposal_at c.args.n c.args.set.now c.as_slice-members.result.now c.members.i c.index-members-i.result
    (subst (λ (vs : List Vector). AreProposals c.args.n c.args.set.now vs) (sym c.as_slice-members.ensures.value) c.requires.members) c.members-test.true
    c.index-members-i.is) c.in_ok-f.ensures
