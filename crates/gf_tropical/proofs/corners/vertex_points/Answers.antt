use Rattle.std.proofs.Common.{arith, sym, subst}
use Rattle.gf_patterns_theory.specs.Patterns.{points}
use Rattle.gf_patterns_theory.proofs.PointLaws.{length-points, points_wide}
use Rattle.gf_levels_theory.proofs.VertexPoints.{vertices_wide}
use Rattle.gf_tropical.specs.VertexLists.{VertexPointsSoFar}
use Rattle.gf_tropical.proofs.CornerLaws.{points_none, points_all}
use Rattle.gf_tropical.proofs.corners.vertex_points.Goals as goal

pub terms-init : goal.terms-init
terms-init c = subst (VertexPointsSoFar c.args.n (points c.args.terms.now) 0) (sym c.new-out.ensures.items) (points_none c.args.n (points c.args.terms.now))

pub returns-clause-points : goal.returns-clause-points
returns-clause-points c = let f = c.args.terms.now in let e = length-points f in let l =
    c.terms-test.false in points_all c.args.n (points f) c.terms.i c.terms.out.items (omega (arith, e, l)) c.terms.invariant

pub returns-clause-wide : goal.returns-clause-wide
returns-clause-wide c = let f = c.args.terms.now in let e = length-points f in let l = c.terms-test.false in
    vertices_wide c.args.n (points f) c.terms.out.items (points_wide c.args.n f c.requires.variables)
    (points_all c.args.n (points f) c.terms.i c.terms.out.items (omega (arith, e, l)) c.terms.invariant)
