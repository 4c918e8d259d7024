use Rattle.gf_frac.specs.Fraction.{whole}
use Rattle.gf_whole_division.proofs.CombinationLaws.{Combining}
use Rattle.gf_whole_division.proofs.combinations.combined.Given as goal

abbrev pub invariant-terms : goal.invariant-terms
invariant-terms l = Combining (whole l.by) (whole l.m.factor) l.m.mono l.fn.old.items l.more l.all l.j

abbrev pub decreases-terms : goal.decreases-terms
decreases-terms l = l.j
