use Rattle.std.proofs.Common.{refl, sym, ◌∙◌}
use Rattle.std.proofs.lemmas.Result.{err_from_is_err_and}
use Rattle.gf_poly.proofs.CollectLaws.{nonempty_by_test, start_at, run_at, next_at, ended, sum_at_end, descending_at_end, variables_at_end, fits_at_end}
use Rattle.gf_poly.proofs.CollectLaws.{sum_overflow_at}
use Rattle.gf_poly.proofs.collect.collected.Goals as goal

pub terms-init : goal.terms-init
terms-init c = start_at _ _ _ c.index-terms-0.result (nonempty_by_test _ c.if-is_empty.ensures) c.index-terms-0.is c.copy-mono.ensures c.in_ok-out.ensures.items
    c.requires

pub returns-in_err-coef-in-Equal-clause-cause : goal.returns-in_err-coef-in-Equal-clause-cause
returns-in_err-coef-in-Equal-clause-cause c =
    let p = err_from_is_err_and c.from_residual-in_err-coef-in-Equal.result c.from_residual-in_err-coef-in-Equal.ensures.1 in
    let e = c.in_err-coef-in-Equal.ensures in
    rw (p.1, p.2) (sum_overflow_at _ _ c.terms.mono c.terms.coef _ c.index-terms-i.result _ c.terms-test.true c.index-terms-i.is (sym c.in-Equal.ensures)
    e.overflow (λ f. let q = e.fits.1 f in cc) c.terms.invariant)

pub terms-preserved-in-Equal : goal.terms-preserved-in-Equal
terms-preserved-in-Equal c = run_at _ _ c.terms.mono c.terms.coef _ _ c.index-terms-i.result c.terms-test.true c.index-terms-i.is (sym c.in-Equal.ensures)
    (c.in_ok-coef-in-Equal.ensures.fits.0 refl) c.in_ok-coef-in-Equal.ensures.sum c.terms.invariant

pub terms-preserved : goal.terms-preserved
terms-preserved c = next_at _ _ _ c.terms.mono _ c.terms.coef _ c.index-terms-i.result c.terms-test.true c.index-terms-i.is
    (λ e. c.in_default.not-Equal (c.compare.ensures ∙ e)) c.in_ok-push_nonzero-in_default.ensures.ok c.copy-mono-in_default.ensures c.terms.invariant

pub returns-clause-value : goal.returns-clause-value
returns-clause-value c = sum_at_end _ _ _ c.terms.mono c.terms.coef c.in_ok-push_nonzero.ensures.ok
    (ended _ _ _ _ c.terms.i c.terms-test.false c.terms.invariant)

pub returns-clause-descending : goal.returns-clause-descending
returns-clause-descending c = descending_at_end _ _ _ c.terms.mono c.terms.coef c.in_ok-push_nonzero.ensures.ok
    (ended _ _ _ _ c.terms.i c.terms-test.false c.terms.invariant)

pub returns-clause-variables : goal.returns-clause-variables
returns-clause-variables c = variables_at_end _ _ _ c.terms.mono c.terms.coef c.in_ok-push_nonzero.ensures.ok
    (ended _ _ _ _ c.terms.i c.terms-test.false c.terms.invariant)

pub returns-clause-fits : goal.returns-clause-fits
returns-clause-fits c = fits_at_end _ _ c.terms.mono c.terms.coef (ended _ _ _ _ c.terms.i c.terms-test.false c.terms.invariant)
