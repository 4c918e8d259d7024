use Rattle.std.proofs.Common.{arith}
use Rattle.std.proofs.lemmas.Result.{err_from_is_err_and}
use Rattle.gf_poly.proofs.MarkingLaws.{monic_value, monic_cause, length-products}
use Rattle.gf_poly.proofs.marked.Marked.monic.Goals as goal

pub returns-in_err-poly-clause-cause : goal.returns-in_err-poly-clause-cause
returns-in_err-poly-clause-cause c =
    let p = err_from_is_err_and c.from_residual.result c.from_residual.ensures.1 in
    rw (p.1, p.2) (monic_cause _ _ _ _ _ c.self.view_is c.coefficient-by.ensures.term c.in_err-poly.ensures.cause)

pub invariant_of-result : goal.invariant_of-result
invariant_of-result c = omega (
  arith,
  length-products c.coefficient-by.result c.self.inside.poly c.in_ok-poly.poly c.coefficient-by.ensures.nonzero
      c.in_ok-poly.ensures.terms,
  c.self.invariant,
)

pub returns-clause-value : goal.returns-clause-value
returns-clause-value c = monic_value _ _ _ _ _ c.self.view_is c.coefficient-by.ensures.term c.coefficient-by.ensures.nonzero c.in_ok-poly.ensures.terms
    c.in_ok-poly.ensures.fits
