use Rattle.std.proofs.Common.{◌≡◌, ◌-◌, take, length}
use Rattle.gf_wide_division.specs.Values.{value_terms}
use Rattle.gf_wide_division.proofs.polynomial.WidePoly.narrowed.Given as goal

abbrev pub invariant-terms : goal.invariant-terms
invariant-terms l = l.out.items ≡ take l.i (value_terms l.terms)

abbrev pub decreases-terms : goal.decreases-terms
decreases-terms l = length l.terms - l.i
