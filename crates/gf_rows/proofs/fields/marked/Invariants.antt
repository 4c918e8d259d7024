use Rattle.gf_poly.specs.Marking.{HaveVariables}
use Rattle.gf_rows.proofs.fields.marked.Given as goal

abbrev pub invariant-loop-part : goal.invariant-loop-part
invariant-loop-part l = HaveVariables l.n l.items.items
