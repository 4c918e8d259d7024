use Rattle.std.proofs.Common.{ap, ◌∙◌, length}
use Rattle.gf_division.proofs.StepLaws.{head_length}
use Rattle.gf_strands.proofs.AlongLaws.{width_at}
use Rattle.gf_strands.proofs.SplitLaws.{passed_alone, passed_alone_more, alone_end}
use Rattle.gf_strands.proofs.along.is_alone.Goals as goal

pub is_further_along-requires-clause-same_length : goal.is_further_along-requires-clause-same_length
is_further_along-requires-clause-same_length c = width_at (length c.args.normal.now) c.terms-terms.result.now c.args.member.now.poly c.index-terms-i.result
    c.terms.i c.requires.variables (c.terms-terms.ensures.value ∙ c.poly.ensures) c.terms-test.true c.index-terms-i.is

pub is_further_along-requires-clause-same_variables : goal.is_further_along-requires-clause-same_variables
is_further_along-requires-clause-same_variables c = ap length c.head-head.ensures.value ∙ head_length (length c.args.normal.now)
    c.args.member.now c.requires.variables c.head-head.ensures.marked

pub terms-preserved : goal.terms-preserved
terms-preserved c = passed_alone_more c.args.normal.now c.args.member.now.head c.terms.i c.terms-terms.result.now c.index-terms-i.result c.terms-test.true
    c.index-terms-i.is
    (passed_alone c.args.normal.now c.head-head.result.now c.args.member.now c.terms.i c.index.result c.terms-terms.result.now c.index-terms-i.result
    c.head-head.ensures.value (c.terms-terms.ensures.value ∙ c.poly.ensures) c.terms-test.true c.index-terms-i.is c.index.ensures.head
    (c.is_further_along.ensures c.if-is_further_along.false))
    c.terms.invariant

pub returns : goal.returns
returns c = λ _. alone_end c.args.normal.now c.args.member.now c.terms.i c.terms-terms.result.now (
  c.args.pivot,
  c.requires.nonzero,
) (c.terms-terms.ensures.value ∙ c.poly.ensures) c.terms-test.false c.terms.invariant
