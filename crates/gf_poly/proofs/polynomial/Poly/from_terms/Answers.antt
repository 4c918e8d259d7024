use Rattle.std.proofs.Common.{subst}
use Rattle.std.proofs.lemmas.Result.{err_from_is_err_and}
use Rattle.gf_poly.specs.Polynomial.{IsDescending}
use Rattle.gf_poly.proofs.CollectLaws.{cause_of, descending_fits, fits_along}
use Rattle.gf_poly.proofs.polynomial.Poly.from_terms.Goals as goal

pub returns-then-descend-clause-fits : goal.returns-then-descend-clause-fits
returns-then-descend-clause-fits c =
    let descending = subst IsDescending c.deref.ensures.value (c.descend.ensures.0 c.if-descend.true) in
    fits_along _ _ c.in_ok-ordered.ensures.terms (descending_fits _ descending)

pub returns-in_err-terms-clause-cause : goal.returns-in_err-terms-clause-cause
returns-in_err-terms-clause-cause c =
    let p = err_from_is_err_and c.from_residual-in_err-terms.result c.from_residual-in_err-terms.ensures.1 in
    rw (p.1, p.2) (cause_of _ _ _ c.in_ok-ordered.ensures.terms (rw c.deref-2.ensures.value at c.in_err-terms.ensures.cause))

pub returns-clause-variables : goal.returns-clause-variables
returns-clause-variables c = record {
  at = λ n h. let k = rw c.deref-2.ensures.value at c.in_ok-terms.ensures.variables in k.at n (c.in_ok-ordered.ensures.terms.variables.at n h);
}
