use Rattle.gf_lifts.proofs.LiftsInTurnLaws.{less_by_at, less_by_kept}
use Rattle.gf_lifts.proofs.wide.lift_by.Goals as goal

pub returns-in-Some-clause-value : goal.returns-in-Some-clause-value
returns-in-Some-clause-value c = less_by_at c.args.done.now c.args.member.now c.mark.result c.args.rest.now c.in_ok-left.left c.in_ok-narrow.narrow
    c.poly.result.now c.in-Ok.poly c.terms.result.now c.head.result.now c.in-Some.index
    c.in_ok-left.ensures.value c.in_ok-narrow.ensures c.poly.ensures c.in-Ok.ensures.difference c.terms.ensures.value c.head.ensures.value
    c.in-Some.ensures.head c.mark.ensures

pub returns-in-Some-clause-variables : goal.returns-in-Some-clause-variables
returns-in-Some-clause-variables c = less_by_kept c.args.member.now c.mark.result c.args.rest.now c.in_ok-left.left c.in_ok-narrow.narrow c.poly.result.now
    c.in-Ok.poly _
    c.requires.kept c.in_ok-left.ensures.variables c.in_ok-narrow.ensures c.poly.ensures c.in-Ok.ensures.variables c.mark.ensures
