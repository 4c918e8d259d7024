use Rattle.gf_poly.specs.Polynomial.{HasVariables}
use Rattle.gf_rows.proofs.fields.terms.Given as goal

abbrev pub invariant-loop-word : goal.invariant-loop-word
invariant-loop-word l = HasVariables l.n l.terms.items
