use Rattle.std.proofs.Common.{◌≤◌, length}
use Rattle.gf_division.specs.Dividends.{split_of, MovesUp}
use Rattle.gf_division.proofs.dividend.Dividend.rise.Given as goal

abbrev pub invariant-terms : goal.invariant-terms
invariant-terms l = MovesUp (split_of l.initial.self) (split_of l.self) × (l.n ≤ length l.self.above.items)

abbrev pub decreases-terms : goal.decreases-terms
decreases-terms l = length l.self.above.items
