use Rattle.std.proofs.Common.{sym, subst}
use Rattle.gf_poly.specs.Marking.{HaveVariables}
use Rattle.gf_division.proofs.ReducerLaws.{member_at}
use Rattle.gf_reduced.proofs.CriteriaLaws.{marks_long, redundant_passed}
use Rattle.gf_reduced.proofs.criteria.are_passed_from.Goals as goal

pub is_divided_before-requires-clause-variables : goal.is_divided_before-requires-clause-variables
is_divided_before-requires-clause-variables c =
    let by = c.args.by.now in
    let v = c.requires.variables in
    let at = member_at by c.args.i c.index-by-i.result c.requires.first c.index-by-i.is in
    subst (λ k. HaveVariables k by) (sym (marks_long v.n by c.args.i c.index-by-i.result c.head.result.now v.each at c.head.ensures.marked
    c.head.ensures.value)) v.each

pub returns-then-is_divided_before-clause-yes : goal.returns-then-is_divided_before-clause-yes
returns-then-is_divided_before-clause-yes c = λ _.
    let by = c.args.by.now in
    let at = member_at by c.args.i c.index-by-i.result c.requires.first c.index-by-i.is in
    redundant_passed by c.args.i c.index-by-i.result c.head.result.now at c.head.ensures.value (c.is_divided_before.ensures c.if-is_divided_before.true)
