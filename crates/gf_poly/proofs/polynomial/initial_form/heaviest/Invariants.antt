use Rattle.std.proofs.Common.{take}
use Rattle.gf_poly.proofs.InitialFormLaws.{Heaviest}
use Rattle.gf_poly.proofs.polynomial.initial_form.heaviest.Given as goal

abbrev pub invariant-terms : goal.invariant-terms
invariant-terms l = Heaviest l.weight (take l.i l.terms) l.out.items l.greatest
