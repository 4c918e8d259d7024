use Rattle.gf_poly.proofs.ProductLaws.{IsDescending-scaled}
use Rattle.gf_poly.proofs.polynomial.Poly.divided.Goals as goal

pub invariant_of-result : goal.invariant_of-result
invariant_of-result c = IsDescending-scaled _ _ _ c.terms.ensures.descending (rw c.terms.ensures.value at c.in_ok-terms.ensures.value)
