use Rattle.std.proofs.Common.{length}
use Rattle.gf_division.specs.Dividends.{split_of}
use Rattle.gf_division.proofs.DividendLaws.{Descending}
use Rattle.gf_division.proofs.dividend.Dividend.descend.Given as goal

abbrev pub invariant-terms : goal.invariant-terms
invariant-terms l = Descending l.x (split_of l.initial.self) (split_of l.self)

abbrev pub decreases-terms : goal.decreases-terms
decreases-terms l = length l.self.below.items
