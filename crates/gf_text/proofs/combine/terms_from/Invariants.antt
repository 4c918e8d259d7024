use Rattle.std.proofs.Common.{◌≡◌, drop}
use Rattle.gf_text.specs.Combining.{terms_written}
use Rattle.gf_text.proofs.CombiningLaws.{onto}
use Rattle.gf_text.proofs.combine.terms_from.Given as goal

abbrev pub invariant-terms : goal.invariant-terms
invariant-terms l = onto l.out.items (terms_written l.n (drop l.term-index l.terms)) ≡ terms_written l.n l.terms
