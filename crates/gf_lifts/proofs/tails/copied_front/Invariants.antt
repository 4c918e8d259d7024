use Rattle.gf_lifts.specs.LiftTails.{AreCopiedTo}
use Rattle.gf_lifts.proofs.tails.copied_front.Given as goal

abbrev pub invariant-lifts : goal.invariant-lifts
invariant-lifts l = AreCopiedTo l.copied l.j
