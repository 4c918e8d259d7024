use Rattle.gf_lifts.specs.LiftTails.{AreUndivided}
use Rattle.gf_lifts.proofs.tails.is_divided.Given as goal

abbrev pub invariant-lifts : goal.invariant-lifts
invariant-lifts l = AreUndivided l.lifts l.copied l.of_copy l.x l.j
