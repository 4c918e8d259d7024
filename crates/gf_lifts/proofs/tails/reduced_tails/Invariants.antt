use Rattle.gf_lifts.specs.LiftTails.{AreTailsInTurn}
use Rattle.gf_lifts.proofs.tails.reduced_tails.Given as goal

abbrev pub invariant-lifts : goal.invariant-lifts
invariant-lifts l = AreTailsInTurn l.fn.lifts.members.items l.copied.items l.at l.all.items
