use Rattle.gf_lifts.proofs.TopLaws.{AreOffBefore}
use Rattle.gf_lifts.proofs.tops.is_off.Given as goal

abbrev pub invariant-terms : goal.invariant-terms
invariant-terms l = AreOffBefore l.normal l.x l.i l.terms
