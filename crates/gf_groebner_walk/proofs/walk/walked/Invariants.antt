use Rattle.gf_groebner_walk.specs.Steps.{IsWalkedFrom}
use Rattle.gf_groebner_walk.proofs.walk.walked.Given as goal

abbrev pub invariant-steps : goal.invariant-steps
invariant-steps l = IsWalkedFrom l.fn.start l.here
