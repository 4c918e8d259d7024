use Rattle.gf_saturate.proofs.ProposalLaws.{turned_inside}
use Rattle.gf_saturate.proofs.proposals.oriented.Goals as goal

pub returns-in-Less : goal.returns-in-Less
returns-in-Less c = turned_inside c.args.n c.args.set.now c.args.v.first c.args.v.second c.requires.variables c.requires.vector
