use Rattle.std.proofs.Common.{◌++◌, length}
use Rattle.gf_poly.specs.Polynomial.{SamePolynomial}
use Rattle.gf_whole_division.specs.Values.{whole_terms}
use Rattle.gf_whole_division.proofs.combinations.Halves.joined.Given as goal

abbrev pub invariant-terms : goal.invariant-terms
invariant-terms l =
    SamePolynomial (whole_terms l.above.items ++ whole_terms l.below.items) (whole_terms l.fn.self.above.items ++ whole_terms l.fn.self.below.items)

abbrev pub decreases-terms : goal.decreases-terms
decreases-terms l = length l.above.items
