use Rattle.gf_saturate.proofs.ProposalLaws.{proposal_at, turned_inside}
use Rattle.gf_saturate.proofs.proposals.reduced_once.Goals as goal

pub divisor-requires-clause-long : goal.divisor-requires-clause-long
divisor-requires-clause-long c = c.requires.vector.first

pub sum-requires-clause-right : goal.sum-requires-clause-right
sum-requires-clause-right c =
    turned_inside c.args.n c.args.set.now c.index-members-i.result.first c.index-members-i.result.second c.requires.variables
    (proposal_at c.args.n c.args.set.now c.args.members.now c.in-Some.i c.index-members-i.result c.requires.members c.in-Some.ensures c.index-members-i.is)

pub divisor-requires-2-clause-long : goal.divisor-requires-2-clause-long
divisor-requires-2-clause-long c = c.requires.vector.second

pub sum-requires-in-Some-divisor-clause-right : goal.sum-requires-in-Some-divisor-clause-right
sum-requires-in-Some-divisor-clause-right c =
    proposal_at c.args.n c.args.set.now c.args.members.now c.in-Some-divisor.j c.index-members-j.result c.requires.members c.in-Some-divisor.ensures
    c.index-members-j.is
