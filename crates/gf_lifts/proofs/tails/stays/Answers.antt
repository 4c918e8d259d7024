use Rattle.std.proofs.Common.{sym, ◌∙◌, subst, ℕ, get_or, false}
use Rattle.gf_poly.specs.Marking.{HaveVariables}
use Rattle.gf_division.proofs.ReducerLaws.{member_at, member_contained, member_variables}
use Rattle.gf_strands.proofs.AlongLaws.{width_at}
use Rattle.gf_lifts.proofs.LiftTailLaws.{passed_at, passed_more, stays_at}
use Rattle.gf_lifts.proofs.tails.stays.Goals as goal

pub is_divided_beside-requires-clause-variables : goal.is_divided_beside-requires-clause-variables
is_divided_beside-requires-clause-variables c = subst (λ (m : ℕ). HaveVariables m c.args.lifts.now)
    (sym (width_at c.requires.variables.n c.terms-terms.result.now c.index-lifts-at.result.poly c.index-terms-k.result c.terms.k
    (member_variables c.requires.variables.n c.args.lifts.now c.index-lifts-at.result c.requires.variables.each
    (member_contained c.args.lifts.now c.args.at c.index-lifts-at.result
    (member_at c.args.lifts.now c.args.at c.index-lifts-at.result c.requires.inside c.index-lifts-at.is)))
    (c.terms-terms.ensures.value ∙ c.poly.ensures) c.terms-test.true c.index-terms-k.is))
    c.requires.variables.each

pub terms-preserved : goal.terms-preserved
terms-preserved c = passed_more c.args.lifts.now c.args.copied.now (get_or c.args.copied.now c.args.at false) c.index-lifts-at.result.head c.terms.k
    c.terms-terms.result.now c.index-terms-k.result c.terms-test.true c.index-terms-k.is
    (passed_at c.args.lifts.now c.args.copied.now (get_or c.args.copied.now c.args.at false) c.index-lifts-at.result c.terms.k c.index.result
    c.terms-terms.result.now c.index-terms-k.result (c.terms-terms.ensures.value ∙ c.poly.ensures) c.terms-test.true c.index-terms-k.is c.index.ensures.head
    (c.is_divided_beside.ensures c.if-is_divided_beside.false))
    c.terms.invariant

pub returns : goal.returns
returns c = λ _. stays_at c.args.lifts.now c.args.copied.now c.args.at c.index-lifts-at.result c.terms.k c.terms-terms.result.now
    (member_at c.args.lifts.now c.args.at c.index-lifts-at.result c.requires.inside c.index-lifts-at.is) c.head.ensures.marked
    (c.terms-terms.ensures.value ∙ c.poly.ensures) c.terms-test.false c.terms.invariant
