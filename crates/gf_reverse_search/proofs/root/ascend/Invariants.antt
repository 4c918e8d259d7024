use Rattle.std.proofs.Common.{List}
use Rattle.gf_reverse_search.specs.Standing.{StandsBelow}
use Rattle.gf_reverse_search.proofs.root.ascend.Given as goal

-- the node at hand is above the first, by as many steps as were counted
abbrev pub invariant-loop-depth : goal.invariant-loop-depth
invariant-loop-depth g l = record {
  is_node : g.T.Tree.is_node l.tree l.node;
  path : (q : List _) × StandsBelow (g.T.Tree.up l.tree) l.node q l.fn.start l.depth;
}

abbrev pub decreases-loop-depth : goal.decreases-loop-depth
decreases-loop-depth g l = g.T.FiniteTree.rank l.tree l.node
