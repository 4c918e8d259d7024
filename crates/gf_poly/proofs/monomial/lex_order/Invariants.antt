use Rattle.gf_poly.proofs.LexLaws.{AgreeUpTo}
use Rattle.gf_poly.proofs.monomial.lex_order.Given as goal

abbrev pub invariant-entries : goal.invariant-entries
invariant-entries l = AgreeUpTo l.x l.y l.i
