use Rattle.gf_poly.proofs.MonomialLaws.{ArePlacedUpTo}
use Rattle.gf_poly.proofs.monomial.padded.Given as goal

abbrev pub invariant-entries : goal.invariant-entries
invariant-entries l = ArePlacedUpTo l.exponents l.all l.i
