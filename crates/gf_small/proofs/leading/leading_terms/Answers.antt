use Rattle.gf_division.proofs.ReducerLaws.{some_variables}
use Rattle.gf_small.proofs.LeadingTermsLaws.{leading_kept}
use Rattle.gf_small.proofs.leading.leading_terms.Goals as goal

pub leading_term-requires : goal.leading_term-requires
leading_term-requires c = some_variables c.args.set.now.variables c.args.set.now.items c.items-items.result.now c.members.i c.index-items-i.result
    c.items-items.ensures.value c.items-items.ensures.variables c.members-test.true c.index-items-i.is

pub new-requires : goal.new-requires
new-requires c = leading_kept c.args.set.now.variables c.variables.result c.args.set.now.items c.items-items.result.now c.members.found.items c.members.i
    c.variables.ensures c.items-items.ensures.value c.items-items.ensures.variables c.members-test.false c.members.invariant
