use Rattle.std.proofs.Common.{◌≡◌, ◌-◌, take, length, []}
use Rattle.gf_frac.specs.Fraction.{reciprocal_ℚ}
use Rattle.gf_poly.specs.Polynomial.{times}
use Rattle.gf_wide_division.specs.Values.{value_terms}
use Rattle.gf_wide_division.proofs.polynomial.quotients.Given as goal

abbrev pub invariant-terms : goal.invariant-terms
invariant-terms l = l.out.items ≡ times (reciprocal_ℚ l.by) [] (take l.i (value_terms l.terms))

abbrev pub decreases-terms : goal.decreases-terms
decreases-terms l = length l.terms - l.i
