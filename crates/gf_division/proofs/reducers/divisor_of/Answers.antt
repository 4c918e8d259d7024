use Rattle.std.proofs.Common.{ap, ◌∙◌, length}
use Rattle.gf_division.proofs.ReducerLaws.{member_at, member_length, divisor_at}
use Rattle.gf_division.proofs.reducers.divisor_of.Goals as goal

pub is_divided-requires-clause-variables : goal.is_divided-requires-clause-variables
is_divided-requires-clause-variables c = ap length c.head.ensures.value ∙ member_length (length c.args.x.now) c.members.j c.args.by.now c.index-by-j.result
    c.requires (member_at c.args.by.now c.members.j c.index-by-j.result c.members-test.true c.index-by-j.is) c.head.ensures.marked

pub returns-then-is_divided-clause-found : goal.returns-then-is_divided-clause-found
returns-then-is_divided-clause-found c = divisor_at c.args.by.now c.args.x.now c.head.result.now c.members.j c.index-by-j.result c.requires
    (member_at c.args.by.now c.members.j c.index-by-j.result c.members-test.true c.index-by-j.is) c.head.ensures.marked c.head.ensures.value
    (c.is_divided.ensures.0 c.if-is_divided.true) c.members.invariant
