use Rattle.gf_poly.proofs.MonomialLaws.{IsBelowSoFar}
use Rattle.gf_poly.proofs.monomial.is_below.Given as goal

abbrev pub invariant-entries : goal.invariant-entries
invariant-entries l = IsBelowSoFar l.x l.y l.i
