use Rattle.gf_poly.specs.Marking.{Each}
use Rattle.gf_poly.specs.Polynomial.{HasVariables}
use Rattle.gf_samples.proofs.sets.polys.Given as goal

abbrev pub invariant-lists : goal.invariant-lists
invariant-lists g l = Each (HasVariables g.row.N) l.found.items
