use Rattle.std.proofs.Common.{subst, refl}
use Rattle.gf_reverse_search.specs.declared.mark.Mark.TheVariants.{After}
use Rattle.gf_reverse_search.specs.Pieces.{IsRise}
use Rattle.gf_reverse_search.proofs.PiecesLaws.{placed_above}
use Rattle.gf_reverse_search.proofs.expand.follow.Goals as goal

pub invariant_of-result : goal.invariant_of-result
invariant_of-result g c =
    let w = c.walker.inside in
    let up = g.T.Tree.up in
    let r = subst (IsRise (up w.tree) w.here w.depth c.rise.new.depth) c.in-Ok-Some.field-0-is c.in-Ok-Some.ensures.risen in
    placed_above g.T.Tree.is_node up (record { tree = w.tree; here = w.here; mark = w.mark; depth = w.depth })
    (record { tree = w.tree; here = c.in-Ok-Some.parent; mark = After c.in-Ok-Some.label; depth = c.rise.new.depth })
    (g.met.T.Tree.tree w.tree) (g.met.T.Tree.nodes w.tree) c.walker.invariant refl c.in-Ok-Some.label r.0 r.1
