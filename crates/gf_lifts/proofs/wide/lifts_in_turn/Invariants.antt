use Rattle.gf_lifts.proofs.LiftsInTurnLaws.{AreLiftingInTurn}
use Rattle.gf_lifts.proofs.wide.lifts_in_turn.Given as goal

abbrev pub invariant-turns : goal.invariant-turns
invariant-turns l = AreLiftingInTurn l.set.variables l.set.items l.below l.done.items
