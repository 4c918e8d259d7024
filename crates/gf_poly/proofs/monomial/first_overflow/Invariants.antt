use Rattle.gf_poly.proofs.MonomialLaws.{FitsBelow}
use Rattle.gf_poly.proofs.monomial.first_overflow.Given as goal

abbrev pub invariant-entries : goal.invariant-entries
invariant-entries l = FitsBelow l.x l.y l.i
