use Rattle.gf_saturate.specs.Proposals.{IsStart}
use Rattle.gf_saturate.proofs.proposals.with_members.Given as goal

abbrev pub invariant-members : goal.invariant-members
invariant-members l = IsStart l.n l.set l.all.items
