use Rattle.std.proofs.Common.{refl, subst, List, [], ◌++◌}
use Rattle.gf_frac.specs.Fraction.{whole}
use Rattle.gf_poly.specs.Polynomial.{SamePolynomial, times}
use Rattle.gf_whole_division.specs.declared.terms.WholeTerm.{WholeTerm}
use Rattle.std.proofs.lemmas.Result.{IfOk-weaker}
use Rattle.gf_whole_division.specs.Values.{whole_terms}
use Rattle.gf_whole_division.proofs.ReductionLaws.{pair_formed}
use Rattle.gf_whole_division.proofs.remainders.pair.Goals as goal

pub returns : goal.returns
returns c =
    IfOk-weaker c.combined-2.result _ _
    (λ h. pair_formed c.args.b.now c.args.c.now c.head.result.now c.head-2.result.now c.in_ok-of_b.of_b c.in_ok-of_b.of_c c.in_ok-first.first.items
    c.in_ok-first.first.items
    (whole_terms h.items) c.multiple.result.1.now c.multiple-2.result.1.now c.multiple.result.0.now c.multiple-2.result.0.now c.common-share_b.result.0
    c.common-share_b.result.1
    c.common-share_b.result.2 c.neg.result c.new-one.result c.head.ensures.value c.head-2.ensures.value c.in_ok-of_b.ensures c.multiple.ensures
    c.multiple-2.ensures c.common-share_b.ensures
    c.new-one.ensures c.neg.ensures refl
    (subst (λ (z : List WholeTerm). SamePolynomial (whole_terms c.in_ok-first.first.items)
    (times (whole c.new-one.result) [] (whole_terms z) ++ times (whole c.common-share_b.result.2) c.in_ok-of_b.of_b (whole_terms c.multiple.result.1.now)))
    c.new.ensures.items c.in_ok-first.ensures)) c.combined-2.ensures
