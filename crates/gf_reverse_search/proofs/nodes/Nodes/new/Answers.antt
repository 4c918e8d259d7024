use Rattle.std.proofs.Common.{inr, refl, subst}
use Rattle.gf_reverse_search.specs.Standing.{IsBelowSomeTop}
use Rattle.gf_reverse_search.proofs.NodesLaws.{bounded}
use Rattle.gf_reverse_search.proofs.nodes.Nodes.new.Goals as goal

-- what is below the walker's top can be listed, and so can what the walker has left
pub invariant_of-result : goal.invariant_of-result
invariant_of-result g c =
    let w = c.args.walker in
    let t = w.tree in
    inr (bounded g.T.Tree.before g.T.Tree.up g.T.Tree.is_node g.T.FiniteTree.count g.met.T.Tree.strict t (g.met.T.Tree.tree t) (g.met.T.Tree.nodes t)
    (g.met.T.FiniteTree.level t) (g.met.T.FiniteTree.finite t) w refl
    (subst (IsBelowSomeTop g.T.Tree.is_node g.T.Tree.up) c.walker.view_is c.walker.invariant) c.zero.result c.zero.ensures)
