use Rattle.gf_poly.proofs.ProductLaws.{IsDescending-products, SamePolynomial-products, HasVariables-products}
use Rattle.gf_poly.proofs.polynomial.Poly.mul_term.Goals as goal

pub invariant_of-result : goal.invariant_of-result
invariant_of-result c = IsDescending-products _ _ _ _ c.requires c.terms.ensures.descending (rw c.terms.ensures.value at c.in_ok-terms.ensures.value)

pub returns-clause-value : goal.returns-clause-value
returns-clause-value c = SamePolynomial-products _ _ _ _ (rw c.terms.ensures.value at c.in_ok-terms.ensures.value)

pub returns-clause-descending : goal.returns-clause-descending
returns-clause-descending c = IsDescending-products _ _ _ _ c.requires c.terms.ensures.descending (rw c.terms.ensures.value at c.in_ok-terms.ensures.value)

pub returns-clause-variables : goal.returns-clause-variables
returns-clause-variables c = HasVariables-products _ _ _ _ c.requires (rw c.terms.ensures.value at c.in_ok-terms.ensures.value)
