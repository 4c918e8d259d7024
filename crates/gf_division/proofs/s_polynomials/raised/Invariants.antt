use Rattle.std.proofs.Common.{◌≡◌, take}
use Rattle.gf_frac.specs.Fraction.{one_ℚ}
use Rattle.gf_poly.specs.Polynomial.{times}
use Rattle.gf_division.proofs.s_polynomials.raised.Given as goal

abbrev pub invariant-terms : goal.invariant-terms
invariant-terms l = l.out.items ≡ times one_ℚ l.by (take l.i l.terms)
