use Rattle.std.proofs.Common.{◌≡◌, ◌++◌, length, reverse}
use Rattle.gf_division.proofs.dividend.joined.Given as goal

abbrev pub invariant-terms : goal.invariant-terms
invariant-terms l = l.all.items ++ reverse l.rest.items ≡ l.fn.above.items ++ reverse l.fn.below.items

abbrev pub decreases-terms : goal.decreases-terms
decreases-terms l = length l.rest.items
