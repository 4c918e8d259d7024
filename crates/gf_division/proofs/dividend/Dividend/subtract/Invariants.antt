use Rattle.gf_division.specs.Dividends.{split_of}
use Rattle.gf_division.proofs.SubtractionLaws.{Subtracting}
use Rattle.gf_division.proofs.dividend.Dividend.subtract.Given as goal

abbrev pub invariant-terms : goal.invariant-terms
invariant-terms l = Subtracting l.coef l.shift l.terms (split_of l.initial.self) (split_of l.self) l.i
