use Rattle.std.proofs.Common.{take}
use Rattle.gf_text.specs.WrittenText.{AreInRange}
use Rattle.gf_text.proofs.printer.terms_are_in_range.Given as goal

abbrev pub invariant-terms : goal.invariant-terms
invariant-terms l = AreInRange (take l.term-index l.terms)
