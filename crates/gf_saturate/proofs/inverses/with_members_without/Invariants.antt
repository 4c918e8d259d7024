use Rattle.gf_saturate.specs.Proposals.{IsStart}
use Rattle.gf_saturate.proofs.inverses.with_members_without.Given as goal

abbrev pub invariant-members : goal.invariant-members
invariant-members l = IsStart l.n l.set l.all.items
