use Rattle.std.proofs.Common.{ap, ◌∙◌, length}
use Rattle.gf_division.proofs.StepLaws.{head_length}
use Rattle.gf_strands.proofs.AlongLaws.{width_at, strand_start, strand_more_of, strand_all, strand_end}
use Rattle.gf_strands.proofs.along.part_on_strand.Goals as goal

pub terms-init : goal.terms-init
terms-init c = strand_start c.args.normal.now c.args.member.now.head c.new-points.result.items c.new-points.ensures.items

pub add_term-requires-clause-same_length : goal.add_term-requires-clause-same_length
add_term-requires-clause-same_length c = width_at (length c.args.normal.now) c.terms-terms.result.now c.args.member.now.poly c.index-terms-i.result c.terms.i
    c.requires.variables (c.terms-terms.ensures.value ∙ c.poly.ensures) c.terms-test.true c.index-terms-i.is

pub add_term-requires-clause-same_variables : goal.add_term-requires-clause-same_variables
add_term-requires-clause-same_variables c = ap length c.head-head.ensures.value ∙ head_length (length c.args.normal.now) c.args.member.now c.requires.variables
    c.head-head.ensures.marked

pub terms-preserved : goal.terms-preserved
terms-preserved c = strand_more_of c.args.normal.now c.args.member.now c.terms-terms.result.now c.head-head.result.now c.index-terms-i.result c.terms.i
    c.terms.points.items c.add_term.new.points.items (c.args.pivot, c.requires.nonzero)
    c.requires.variables c.head-head.ensures.marked (c.terms-terms.ensures.value ∙ c.poly.ensures) c.head-head.ensures.value c.terms-test.true
    c.index-terms-i.is (c.in_ok-add_term.ensures) c.terms.invariant

pub returns-clause-part : goal.returns-clause-part
returns-clause-part c = strand_end c.args.normal.now c.args.member.now c.terms.points.items (c.args.pivot, c.requires.nonzero) c.head-head.ensures.marked
    (strand_all c.args.normal.now c.args.member.now.head c.terms-terms.result.now c.args.member.now.poly c.terms.points.items c.terms.i
    (c.terms-terms.ensures.value ∙ c.poly.ensures) c.terms-test.false c.terms.invariant)

pub returns-clause-on : goal.returns-clause-on
returns-clause-on c = c.terms.invariant.on

pub returns-clause-falling : goal.returns-clause-falling
returns-clause-falling c = c.terms.invariant.falling
