use Rattle.gf_poly.proofs.LexLaws.{IsSameUpTo}
use Rattle.gf_poly.proofs.monomial.are_same.Given as goal

abbrev pub invariant-entries : goal.invariant-entries
invariant-entries l = IsSameUpTo l.x l.y l.same l.i
