use Rattle.gf_poly.specs.Marking.{HaveVariables}
use Rattle.gf_lifts.proofs.weights.copies.Given as goal

abbrev pub invariant-lifts : goal.invariant-lifts
invariant-lifts l = HaveVariables l.n l.all.items
