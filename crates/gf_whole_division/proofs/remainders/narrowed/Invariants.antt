use Rattle.std.proofs.Common.{◌≡◌, ◌-◌, take, length, []}
use Rattle.gf_frac.specs.Fraction.{whole, reciprocal_ℚ}
use Rattle.gf_poly.specs.Polynomial.{times}
use Rattle.gf_whole_division.specs.Values.{whole_terms}
use Rattle.gf_whole_division.proofs.remainders.narrowed.Given as goal

abbrev pub invariant-terms : goal.invariant-terms
invariant-terms l = l.out.items ≡ times (reciprocal_ℚ (whole l.by)) [] (whole_terms (take l.i l.terms))

abbrev pub decreases-terms : goal.decreases-terms
decreases-terms l = length l.terms - l.i
