use Rattle.std.proofs.Common.{refl, sym}
use Rattle.std.proofs.lemmas.Result.{err_from_is_err_and}
use Rattle.gf_poly.specs.Products.{TermFits}
use Rattle.gf_poly.proofs.ProductLaws.{multiplied_at, fits_at_end, HasVariables-at, product_overflow_at, product_exponent_at}
use Rattle.gf_poly.proofs.products.multiplied.Goals as goal

pub returns-in_err-product-clause-cause : goal.returns-in_err-product-clause-cause
returns-in_err-product-clause-cause c =
    let p = err_from_is_err_and c.from_residual-in_err-product.result c.from_residual-in_err-product.ensures.1 in
    let e = c.in_err-product.ensures in
    rw (p.1, p.2) (product_overflow_at c.args.coef.now c.args.mono.now _ _ _ c.index-terms-i.result _ c.terms-test.true c.index-terms-i.is e.overflow
    (λ f. let q = e.fits.1 f in cc) c.terms.invariant)

pub mul-requires-in-terms : goal.mul-requires-in-terms
mul-requires-in-terms c = sym (HasVariables-at _ _ _ c.index-terms-i.result c.terms-test.true c.index-terms-i.is c.requires.same_variables)

pub returns-in_err-monomial-clause-cause : goal.returns-in_err-monomial-clause-cause
returns-in_err-monomial-clause-cause c =
    let p = err_from_is_err_and c.from_residual-in_err-monomial.result c.from_residual-in_err-monomial.ensures.1 in
    rw (p.1, p.2) (product_exponent_at c.args.coef.now c.args.mono.now _ _ _ c.index-terms-i.result _ c.terms-test.true c.index-terms-i.is
    (c.in_ok-product.ensures.fits.0 refl) c.in_err-monomial.ensures.overflow c.terms.invariant)

pub terms-preserved : goal.terms-preserved
terms-preserved c = multiplied_at (TermFits c.args.coef.now c.args.mono.now) _ _ _ _ _ _ c.index-terms-i.result _ _ c.terms-test.true c.index-terms-i.is
    c.in_ok-product.ensures.product c.in_ok-monomial.ensures.product (record {
      coefficient_fits = c.in_ok-product.ensures.fits.0 refl;
      exponents_fit = c.in_ok-monomial.ensures.fits.0 refl;
    }) c.in_ok-push_nonzero.ensures.ok c.terms.invariant

pub returns-clause-fits : goal.returns-clause-fits
returns-clause-fits c = record { at = fits_at_end (TermFits c.args.coef.now c.args.mono.now) _ _ _ _ _ c.terms-test.false c.terms.invariant }
