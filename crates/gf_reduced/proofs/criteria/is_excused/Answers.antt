use Rattle.std.proofs.Common.{sym, ◌∙◌}
use Rattle.gf_division.proofs.ReducerLaws.{member_at}
use Rattle.gf_reduced.proofs.CriteriaLaws.{marks_long, multiple_variables, excused_coprime, excused_divided}
use Rattle.gf_reduced.proofs.criteria.is_excused.Goals as goal

pub are_coprime-requires : goal.are_coprime-requires
are_coprime-requires c =
    let v = c.requires.variables in
    marks_long v.n c.args.by.now c.args.i c.index-by-i.result c.head.result.now v.each
    (member_at c.args.by.now c.args.i c.index-by-i.result c.requires.first c.index-by-i.is) c.head.ensures.marked c.head.ensures.value
    ∙ sym (marks_long v.n c.args.by.now c.args.j c.index-by-j.result c.head-2.result.now v.each
    (member_at c.args.by.now c.args.j c.index-by-j.result c.requires.second c.index-by-j.is) c.head-2.ensures.marked c.head-2.ensures.value)

pub returns-then-are_coprime : goal.returns-then-are_coprime
returns-then-are_coprime c = λ t. excused_coprime c.args.by.now c.args.i c.args.j c.index-by-i.result c.index-by-j.result c.head.result.now c.head-2.result.now
    (member_at c.args.by.now c.args.i c.index-by-i.result c.requires.first c.index-by-i.is)
    (member_at c.args.by.now c.args.j c.index-by-j.result c.requires.second c.index-by-j.is) c.head.ensures.value c.head-2.ensures.value
    (c.are_coprime.ensures c.if-are_coprime.true)

pub lcm-multiple-requires : goal.lcm-multiple-requires
lcm-multiple-requires c =
    let v = c.requires.variables in
    marks_long v.n c.args.by.now c.args.i c.index-by-i.result c.head-3.result.now v.each
    (member_at c.args.by.now c.args.i c.index-by-i.result c.requires.first c.index-by-i.is) c.head-3.ensures.marked c.head-3.ensures.value
    ∙ sym (marks_long v.n c.args.by.now c.args.j c.index-by-j.result c.head-4.result.now v.each
    (member_at c.args.by.now c.args.j c.index-by-j.result c.requires.second c.index-by-j.is) c.head-4.ensures.marked c.head-4.ensures.value)

pub is_divided_before-requires-clause-variables : goal.is_divided_before-requires-clause-variables
is_divided_before-requires-clause-variables c =
    let v = c.requires.variables in
    multiple_variables v.n c.args.by.now c.head-3.result.now c.head-4.result.now c.lcm-multiple.result v.each
    (marks_long v.n c.args.by.now c.args.i c.index-by-i.result c.head-3.result.now v.each
    (member_at c.args.by.now c.args.i c.index-by-i.result c.requires.first c.index-by-i.is) c.head-3.ensures.marked c.head-3.ensures.value)
    (marks_long v.n c.args.by.now c.args.j c.index-by-j.result c.head-4.result.now v.each
    (member_at c.args.by.now c.args.j c.index-by-j.result c.requires.second c.index-by-j.is) c.head-4.ensures.marked c.head-4.ensures.value)
    c.lcm-multiple.ensures

pub returns : goal.returns
returns c = λ t. excused_divided c.args.by.now c.args.i c.args.j c.index-by-i.result c.index-by-j.result c.head-3.result.now c.head-4.result.now
    c.lcm-multiple.result (member_at c.args.by.now c.args.i c.index-by-i.result c.requires.first c.index-by-i.is)
    (member_at c.args.by.now c.args.j c.index-by-j.result c.requires.second c.index-by-j.is) c.head-3.ensures.value c.head-4.ensures.value
    c.lcm-multiple.ensures (c.is_divided_before.ensures t)
