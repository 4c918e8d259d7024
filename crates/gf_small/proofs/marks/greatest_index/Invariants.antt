use Rattle.gf_small.proofs.MarksByWeightLaws.{Greatest}
use Rattle.gf_small.proofs.marks.greatest_index.Given as goal

-- the greatest of the terms so far
abbrev pub invariant-terms : goal.invariant-terms
invariant-terms l = Greatest l.weight l.terms l.index l.greatest l.i
