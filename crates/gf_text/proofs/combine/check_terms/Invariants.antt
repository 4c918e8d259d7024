use Rattle.gf_text.proofs.CombiningLaws.{Taken}
use Rattle.gf_text.proofs.combine.check_terms.Given as goal

abbrev pub invariant-terms : goal.invariant-terms
invariant-terms l = Taken l.n l.terms l.term-index
