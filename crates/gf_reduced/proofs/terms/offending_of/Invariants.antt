use Rattle.gf_reduced.proofs.TermLaws.{Searched}
use Rattle.gf_reduced.proofs.terms.offending_of.Given as goal

abbrev pub invariant-terms : goal.invariant-terms
invariant-terms l = Searched l.items l.i (record { poly = l.terms; head = l.head }) l.terms l.k
