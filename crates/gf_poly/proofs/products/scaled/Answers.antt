use Rattle.std.proofs.Common.{refl}
use Rattle.std.proofs.lemmas.Result.{err_from_is_err_and}
use Rattle.gf_poly.specs.declared.Term.{Term}
use Rattle.gf_poly.specs.Products.{ScaleFits}
use Rattle.gf_poly.proofs.ProductLaws.{multiplied_at, scale_overflow_at}
use Rattle.gf_poly.proofs.products.scaled.Goals as goal

pub returns-in_err-coef-clause-cause : goal.returns-in_err-coef-clause-cause
returns-in_err-coef-clause-cause c =
    let p = err_from_is_err_and c.from_residual-in_err-coef.result c.from_residual-in_err-coef.ensures.1 in
    let e = c.in_err-coef.ensures in
    rw (p.1, p.2) (scale_overflow_at c.args.kind c.args.by.now _ _ _ c.index-terms-i.result _ c.terms-test.true c.index-terms-i.is e.overflow (λ f. let q =
    e.fits.1 f in cc) c.terms.invariant)

pub terms-preserved : goal.terms-preserved
terms-preserved c = multiplied_at (λ (t : Term). ScaleFits c.args.kind c.args.by.now t.coef) _ _ _ _ _ _ c.index-terms-i.result _ _ c.terms-test.true
    c.index-terms-i.is c.in_ok-coef.ensures.value c.copy.ensures (c.in_ok-coef.ensures.fits.0 refl) c.in_ok-push_nonzero.ensures.ok c.terms.invariant
