use Rattle.std.proofs.Common.{take}
use Rattle.gf_poly.specs.Polynomial.{IsDescending}
use Rattle.gf_poly.proofs.descending.descend.Given as goal

abbrev pub invariant-terms : goal.invariant-terms
invariant-terms l = IsDescending (take l.i l.terms)
