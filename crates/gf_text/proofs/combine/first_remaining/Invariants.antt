use Rattle.gf_text.proofs.CombiningLaws.{Passed}
use Rattle.gf_text.proofs.combine.first_remaining.Given as goal

abbrev pub invariant-terms : goal.invariant-terms
invariant-terms l = Passed l.n l.terms l.sum l.term-index
