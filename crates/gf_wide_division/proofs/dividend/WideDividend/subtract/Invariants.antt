use Rattle.gf_division.proofs.SubtractionLaws.{Subtracting}
use Rattle.gf_wide_division.specs.Dividends.{dividend_of}
use Rattle.gf_wide_division.proofs.dividend.WideDividend.subtract.Given as goal

abbrev pub invariant-terms : goal.invariant-terms
invariant-terms l = Subtracting l.coef l.shift l.terms (dividend_of l.initial.self) (dividend_of l.self) l.i
