use Rattle.gf_division.proofs.TailLaws.{AreElsewhere}
use Rattle.gf_small.proofs.initial.index_or_first.Given as goal

abbrev pub invariant-terms : goal.invariant-terms
invariant-terms l = AreElsewhere l.x l.i l.terms
