use Rattle.std.proofs.Common.{take}
use Rattle.gf_poly.specs.Monomial.{IsWordOf}
use Rattle.gf_poly.proofs.monomial.word_of.Given as goal

abbrev pub invariant-entries : goal.invariant-entries
invariant-entries l = IsWordOf (take l.i l.exponents) l.word
