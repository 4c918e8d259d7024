use Rattle.gf_division.specs.Dividends.{split_of}
use Rattle.gf_division.proofs.RemainderLaws.{Working}
use Rattle.gf_division.proofs.remainders.by_rule.Given as goal

abbrev pub invariant-steps : goal.invariant-steps
invariant-steps l = Working l.by l.spared (split_of l.initial.rest) (split_of l.rest)

abbrev pub decreases-steps : goal.decreases-steps
decreases-steps l = l.left
