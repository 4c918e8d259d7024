use Rattle.gf_division.proofs.TailLaws.{AreElsewhere}
use Rattle.gf_division.proofs.autoreduction.index_of.Given as goal

abbrev pub invariant-terms : goal.invariant-terms
invariant-terms l = AreElsewhere l.x l.i l.terms
