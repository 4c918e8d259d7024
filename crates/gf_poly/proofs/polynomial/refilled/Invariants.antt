use Rattle.std.proofs.Common.{◌≡◌, take}
use Rattle.gf_poly.proofs.polynomial.refilled.Given as goal

abbrev pub invariant-terms : goal.invariant-terms
invariant-terms l = l.out.items ≡ take l.i l.terms
