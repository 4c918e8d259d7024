use Rattle.std.proofs.Common.{length}
use Rattle.gf_frac.specs.Fraction.{whole}
use Rattle.gf_whole_division.specs.Combinations.{IsMoved}
use Rattle.gf_whole_division.proofs.combinations.Halves.descend.Given as goal

abbrev pub invariant-terms : goal.invariant-terms
invariant-terms l = IsMoved (whole l.by) l.initial.self l.self

abbrev pub decreases-terms : goal.decreases-terms
decreases-terms l = length l.self.below.items
