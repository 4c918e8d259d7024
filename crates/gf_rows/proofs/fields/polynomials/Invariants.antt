use Rattle.gf_poly.specs.Marking.{Each}
use Rattle.gf_poly.specs.Polynomial.{HasVariables}
use Rattle.gf_rows.proofs.fields.polynomials.Given as goal

abbrev pub invariant-loop-part : goal.invariant-loop-part
invariant-loop-part l = Each (HasVariables l.n) l.found.items
