use Rattle.gf_patterns_theory.specs.Patterns.{points}
use Rattle.gf_tropical.specs.VertexLists.{VertexPointsSoFar}
use Rattle.gf_tropical.proofs.corners.vertex_points.Given as goal

abbrev pub invariant-terms : goal.invariant-terms
invariant-terms l = VertexPointsSoFar l.n (points l.terms) l.i l.out.items
