use Rattle.gf_poly.specs.Marking.{HaveVariables}
use Rattle.gf_samples.proofs.sets.marked_set.Given as goal

abbrev pub invariant-members : goal.invariant-members
invariant-members g l = HaveVariables g.row.N l.items.items
