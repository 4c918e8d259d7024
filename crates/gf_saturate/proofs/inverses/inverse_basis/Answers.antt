use Rattle.std.proofs.Common.{◌+◌}
use Rattle.gf_saturate.proofs.GradedLaws.{order_entries, order_suited}
use Rattle.gf_saturate.proofs.inverses.inverse_basis.Goals as goal

pub by_runs-requires-clause-entries : goal.by_runs-requires-clause-entries
by_runs-requires-clause-entries c = order_entries (c.args.n + 1) c.in-Some.order c.in-Some.ensures

pub by_runs-requires-clause-suited : goal.by_runs-requires-clause-suited
by_runs-requires-clause-suited c = order_suited (c.args.n + 1) c.in-Some.order c.args.set.now c.requires.variables c.in-Some.ensures

pub returns : goal.returns
returns c = record { order = c.in-Some.order; weighted = c.in-Some.ensures; basis = c.in-Some-by_runs.ensures }
