use Rattle.gf_poly.specs.Marking.{polys}
use Rattle.gf_tree.specs.Walks.{walk_at, left_at_most}
use Rattle.gf_tropical_basis_test.specs.Passing.{AreMonomialFree}
use Rattle.gf_tropical_basis_test.specs.Verdicts.{maximal_rows}
use Rattle.gf_tropical_basis_test.proofs.WalkLaws.{PassedSoFar}
use Rattle.gf_tropical_basis_test.proofs.bases.from_root.Given as goal

abbrev pub invariant-loop-walker : goal.invariant-loop-walker
invariant-loop-walker l = PassedSoFar l.fn.root.variables (maximal_rows l.fn.fan) (walk_at l.fn.root l.fn.region l.fn.pairs) l.walker ×
    AreMonomialFree l.fn.root.variables (polys l.fn.root.items) l.passed

abbrev pub decreases-loop-walker : goal.decreases-loop-walker
decreases-loop-walker l = left_at_most l.walker
