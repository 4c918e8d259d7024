use Rattle.gf_lifts.proofs.LiftTailLaws.{ArePassed}
use Rattle.gf_lifts.proofs.tails.stays.Given as goal

abbrev pub invariant-terms : goal.invariant-terms
invariant-terms l = ArePassed l.lifts l.copied l.of_copy l.lift.head l.k l.terms
