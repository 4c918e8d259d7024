use Rattle.std.proofs.Common.{◌<◌, length, IfSome}
use Rattle.gf_wide_division.proofs.dividend.WideDividend.index_of_foremost.Given as goal

abbrev pub invariant-terms : goal.invariant-terms
invariant-terms l = IfSome l.found (λ k. k < length l.self.terms.items)
