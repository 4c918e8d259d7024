use Rattle.gf_whole_division.specs.Reductions.{KeepsReached, terms_of}
use Rattle.gf_whole_division.proofs.remainders.worked_off.Given as goal

abbrev pub invariant-steps : goal.invariant-steps
invariant-steps l = KeepsReached l.by (terms_of l.initial.rest) (terms_of l.rest)
