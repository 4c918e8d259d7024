use Rattle.std.proofs.Common.{◌≡◌, ◌-◌, take, length}
use Rattle.gf_wide_division.specs.Values.{value_terms}
use Rattle.gf_wide_division.proofs.dividend.WideDividend.of_poly.Given as goal

abbrev pub invariant-terms : goal.invariant-terms
invariant-terms l = value_terms l.terms.items ≡ take l.i (value_terms l.all)

abbrev pub decreases-terms : goal.decreases-terms
decreases-terms l = length l.all - l.i
