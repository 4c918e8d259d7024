use Rattle.gf_poly.specs.Polynomial.{HasVariables}
use Rattle.gf_samples.proofs.terms.poly.Given as goal

abbrev pub invariant-rows : goal.invariant-rows
invariant-rows g l = HasVariables g.row.N l.terms.items
