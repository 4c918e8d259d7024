use Rattle.std.proofs.Common.{sym, subst, ◌∙◌, length, ℕ}
use Rattle.gf_poly.specs.Marking.{HaveVariables}
use Rattle.gf_strands.proofs.AlongLaws.{width_at}
use Rattle.gf_lifts.proofs.TailSteps.{passed_over, passed_over_end}
use Rattle.gf_lifts.proofs.tails.is_reduced.Goals as goal

pub is_divisible_beside-requires : goal.is_divisible_beside-requires
is_divisible_beside-requires c = subst (λ (m : ℕ). HaveVariables m c.args.lifts.now)
    (sym (width_at (length c.args.member.now.head) c.terms-terms.result.now c.args.member.now.poly c.index-terms-k.result c.terms.k c.requires.terms
    (c.terms-terms.ensures.value ∙ c.poly.ensures) c.terms-test.true c.index-terms-k.is))
    c.requires.members

pub terms-preserved : goal.terms-preserved
terms-preserved c = passed_over c.args.lifts.now c.args.member.now c.terms.k c.index.result c.terms-terms.result.now c.index-terms-k.result
    (c.terms-terms.ensures.value ∙ c.poly.ensures) c.terms-test.true c.index-terms-k.is
    c.index.ensures.head (c.is_divisible_beside.ensures c.if-is_divisible_beside.false) c.terms.invariant

pub returns : goal.returns
returns c = λ _. passed_over_end c.args.lifts.now c.args.member.now c.terms.k c.terms-terms.result.now
    (c.terms-terms.ensures.value ∙ c.poly.ensures) c.terms-test.false c.terms.invariant
