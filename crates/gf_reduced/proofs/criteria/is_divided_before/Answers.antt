use Rattle.std.proofs.Common.{arith}
use Rattle.gf_division.proofs.ReducerLaws.{member_at}
use Rattle.gf_reduced.proofs.CriteriaLaws.{divided_before, marks_long}
use Rattle.gf_reduced.proofs.criteria.is_divided_before.Goals as goal

pub divides-requires : goal.divides-requires
divides-requires c = marks_long _ c.args.by.now c.members.k c.index-by-k.result c.head.result.now c.requires.variables
    (member_at c.args.by.now c.members.k c.index-by-k.result (omega (arith, c.requires.within, c.members-test.true)) c.index-by-k.is)
    c.head.ensures.marked c.head.ensures.value

pub returns-then-divides : goal.returns-then-divides
returns-then-divides c = λ t. divided_before c.args.by.now c.args.i c.members.k c.index-by-k.result c.head.result.now c.args.x.now
    (member_at c.args.by.now c.members.k c.index-by-k.result (omega (arith, c.requires.within, c.members-test.true)) c.index-by-k.is)
    c.members-test.true c.head.ensures.value (c.divides.ensures.0 c.if-divides.true)
