use Rattle.std.proofs.Common.{ℕ, ◌+◌, ◌<◌, arith, sym, subst, ◌∙◌}
use Rattle.gf_poly.specs.Polynomial.{HasVariables}
use Rattle.gf_poly.proofs.ProductLaws.{HasVariables-at}
use Rattle.gf_saturate.proofs.InverseLaws.{without_more, without_all}
use Rattle.gf_saturate.proofs.inverses.is_without.Goals as goal

pub exponent-last-requires : goal.exponent-last-requires
exponent-last-requires c =
    subst (λ (m : ℕ). c.args.n < m)
    (sym (HasVariables-at (c.args.n + 1) c.terms-terms.result.now c.monomials.i c.index-terms-i.result c.monomials-test.true c.index-terms-i.is
    (subst (HasVariables (c.args.n + 1)) (sym c.terms-terms.ensures.value) c.requires)))
    (omega arith)

pub monomials-preserved : goal.monomials-preserved
monomials-preserved c =
    without_more c.args.n c.terms-terms.result.now c.monomials.i c.index-terms-i.result c.monomials-test.true c.index-terms-i.is
    (sym c.exponent-last.ensures ∙ c.if-last-ne0.false) c.monomials.invariant

pub returns : goal.returns
returns c = λ t.
    without_all c.args.n c.args.f.now c.terms-terms.result.now c.monomials.i c.terms-terms.ensures.value c.requires c.monomials-test.false
    c.monomials.invariant
