use Rattle.std.proofs.Common.{◌≤◌, ◌-◌, take, length}
use Rattle.gf_division.specs.Dividends.{AreOver}
use Rattle.gf_wide_division.specs.Values.{value_terms}
use Rattle.gf_wide_division.proofs.dividend.WideDividend.index.Given as goal

abbrev pub invariant-terms : goal.invariant-terms
invariant-terms l = record { within : l.i ≤ length l.self.terms.items; over : AreOver l.x (take l.i (value_terms l.self.terms.items)) }

abbrev pub decreases-terms : goal.decreases-terms
decreases-terms l = length l.self.terms.items - l.i
