use Rattle.std.proofs.Common.{◌≡◌, ◌-◌, take, length, []}
use Rattle.gf_frac.specs.Fraction.{whole}
use Rattle.gf_poly.specs.Polynomial.{times}
use Rattle.gf_whole_division.specs.Values.{whole_terms}
use Rattle.gf_whole_division.proofs.combinations.divided.Given as goal

abbrev pub invariant-terms : goal.invariant-terms
invariant-terms l = whole_terms (take l.i l.terms) ≡ times (whole l.by) [] (whole_terms l.out.items)

abbrev pub decreases-terms : goal.decreases-terms
decreases-terms l = length l.terms - l.i
