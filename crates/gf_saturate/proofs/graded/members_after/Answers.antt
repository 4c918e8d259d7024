use Rattle.gf_saturate.proofs.GradedLaws.{order_entries, order_suited}
use Rattle.gf_saturate.proofs.graded.members_after.Goals as goal

pub basis-requires-clause-entries : goal.basis-requires-clause-entries
basis-requires-clause-entries c = order_entries c.args.n c.in-Some.order c.in-Some.ensures

pub basis-requires-clause-suited : goal.basis-requires-clause-suited
basis-requires-clause-suited c = order_suited c.args.n c.in-Some.order c.args.set.now c.requires c.in-Some.ensures
