use Rattle.gf_poly.proofs.ProductLaws.{IsDescending-scaled, IsScaled-products, KeepsVariables-scaled}
use Rattle.gf_poly.proofs.polynomial.Poly.scale.Goals as goal

pub invariant_of-result : goal.invariant_of-result
invariant_of-result c = IsDescending-scaled _ _ _ c.terms.ensures.descending (rw c.terms.ensures.value at c.in_ok-terms.ensures.value)

pub returns-clause-value : goal.returns-clause-value
returns-clause-value c = IsScaled-products _ _ _ (rw c.terms.ensures.value at c.in_ok-terms.ensures.value)

pub returns-clause-descending : goal.returns-clause-descending
returns-clause-descending c = IsDescending-scaled _ _ _ c.terms.ensures.descending (rw c.terms.ensures.value at c.in_ok-terms.ensures.value)

pub returns-clause-variables : goal.returns-clause-variables
returns-clause-variables c = KeepsVariables-scaled _ _ _ (rw c.terms.ensures.value at c.in_ok-terms.ensures.value)
