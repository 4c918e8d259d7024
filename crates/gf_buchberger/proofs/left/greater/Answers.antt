use Rattle.gf_buchberger.proofs.LeadingLaws.{same_variables_at, has_entries_at, greater_by, stays_by, equal_by}
use Rattle.gf_buchberger.proofs.left.greater.Goals as goal

pub compare-requires-clause-variables : goal.compare-requires-clause-variables
compare-requires-clause-variables c = same_variables_at c.args.order.now c.args.f.now c.args.at c.args.i c.mono.result.now c.mono-2.result.now
    c.requires.comparable c.requires.inside c.requires.next c.mono.ensures c.mono-2.ensures

pub compare-requires-clause-entries : goal.compare-requires-clause-entries
compare-requires-clause-entries c = has_entries_at c.args.order.now c.args.f.now c.args.at c.mono.result.now c.requires.comparable c.requires.inside
    c.mono.ensures

pub returns-in-Less-clause-value : goal.returns-in-Less-clause-value
returns-in-Less-clause-value c = greater_by c.args.order.now c.args.f.now c.args.at c.args.i c.mono.result.now c.mono-2.result.now c.requires.inside
    c.requires.next c.mono.ensures c.mono-2.ensures c.in-Less.ensures

pub returns-in-Equal-clause-value : goal.returns-in-Equal-clause-value
returns-in-Equal-clause-value c = equal_by c.args.order.now c.args.f.now c.args.at c.args.i c.mono.result.now c.mono-2.result.now c.requires.inside
    c.requires.next c.mono.ensures c.mono-2.ensures c.in-Equal.ensures

pub returns-in-Greater-clause-value : goal.returns-in-Greater-clause-value
returns-in-Greater-clause-value c = stays_by c.args.order.now c.args.f.now c.args.at c.args.i c.mono.result.now c.mono-2.result.now c.requires.inside
    c.requires.next c.mono.ensures c.mono-2.ensures c.in-Greater.ensures
