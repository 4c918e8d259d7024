use Rattle.std.proofs.Common.{◌∙◌, arith, sym}
use Rattle.gf_initial_monomials.proofs.SameLaws.{same_more, same_all}
use Rattle.gf_initial_monomials.proofs.seen.is_same_poly.Goals as goal

pub terms-preserved : goal.terms-preserved
terms-preserved c = same_more c.terms-xs.result.now c.terms-ys.result.now c.terms.i c.index-xs-i.result c.index-ys-i.result c.terms-test.true
    (omega (arith, c.terms-test.true, c.if-xs-ys.false)) c.index-xs-i.is c.index-ys-i.is (c.is_same_term.ensures c.if-not-is_same_term.false) c.terms.invariant

pub returns : goal.returns
returns c = λ yes. sym c.terms-xs.ensures.value ∙ same_all c.terms-xs.result.now c.terms-ys.result.now c.terms.i c.terms-test.false
    (omega (arith, c.terms-test.false, c.if-xs-ys.false)) c.terms.invariant ∙ c.terms-ys.ensures.value
