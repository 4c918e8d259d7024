use Rattle.std.proofs.Common.{take}
use Rattle.gf_poly.specs.Polynomial.{HasVariables}
use Rattle.gf_whole_division.proofs.remainders.have_variables.Given as goal

abbrev pub invariant-terms : goal.invariant-terms
invariant-terms l = HasVariables l.n (take l.i l.terms)
