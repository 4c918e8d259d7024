use Rattle.std.proofs.Common.{◌∙◌, sym, arith}
use Rattle.gf_patterns_theory.specs.Patterns.{points}
use Rattle.gf_patterns_theory.proofs.PointLaws.{length-points}
use Rattle.gf_tropical.proofs.CornerLaws.{points_more, points_skip}
use Rattle.gf_tropical.proofs.LoopLaws.{point-points}
use Rattle.gf_tropical.proofs.VertexLists.{no_vertex}
use Rattle.gf_tropical.proofs.corners.with_point.Goals as goal

pub returns-then-flags-i : goal.returns-then-flags-i
returns-then-flags-i c s =
    let f = c.args.terms.now in let e = length-points f in let l = c.requires.index in
    rw c.in_ok-push.ensures.items (points_more c.args.n (points f) c.args.i c.args.known.items _ (omega (arith, e, l))
    (c.in_ok-point.ensures ∙ sym (point-points f c.args.i c.index-terms-i.result l)) s)

pub returns : goal.returns
returns c s = points_skip c.args.n (points c.args.terms.now) c.args.i c.args.known.items
    (λ v. no_vertex c.args.n c.args.terms.now c.args.i c.args.flags.now c.requires.index c.requires.flags c.if-flags-i.false v) s
