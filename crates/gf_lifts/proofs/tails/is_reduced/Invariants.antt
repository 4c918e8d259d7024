use Rattle.gf_lifts.proofs.TailSteps.{ArePassedOver}
use Rattle.gf_lifts.proofs.tails.is_reduced.Given as goal

abbrev pub invariant-terms : goal.invariant-terms
invariant-terms l = ArePassedOver l.lifts l.member.head l.k l.terms
