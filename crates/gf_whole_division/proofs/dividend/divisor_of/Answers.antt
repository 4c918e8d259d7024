use Rattle.std.proofs.Common.{ap, sym, ◌∙◌, length}
use Rattle.gf_division.proofs.ReducerLaws.{member_at}
use Rattle.gf_whole_division.proofs.ReductionLaws.{divided_at}
use Rattle.gf_whole_division.proofs.dividend.divisor_of.Goals as goal

pub is_divided-requires-clause-variables : goal.is_divided-requires-clause-variables
is_divided-requires-clause-variables c = ap length (sym c.exponents.ensures.value) ∙ c.if-exponents.false ∙ ap length c.exponents-in-members.ensures.value

pub returns-then-is_divided : goal.returns-then-is_divided
returns-then-is_divided c =
    divided_at c.args.by.now c.args.x.now c.head-mark.result.now c.members.j c.index-by-j.result
    (member_at c.args.by.now c.members.j c.index-by-j.result c.members-test.true c.index-by-j.is) c.head-mark.ensures.value
    (ap length (sym c.exponents.ensures.value) ∙ c.if-exponents.false ∙ ap length c.exponents-in-members.ensures.value)
    (c.is_divided.ensures.0 c.if-is_divided.true) c.members.invariant
