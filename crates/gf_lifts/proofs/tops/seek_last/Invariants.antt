use Rattle.std.proofs.Common.{length}
use Rattle.gf_division.specs.Dividends.{split_of}
use Rattle.gf_lifts.proofs.TopLaws.{SeekingStrand}
use Rattle.gf_lifts.proofs.tops.seek_last.Given as goal

abbrev pub invariant-terms : goal.invariant-terms
invariant-terms l = SeekingStrand (length l.normal) (split_of l.initial.rest) (split_of l.rest)

abbrev pub decreases-terms : goal.decreases-terms
decreases-terms l = length l.rest.below.items
