use Rattle.std.proofs.Common.{◌≡◌, ◌++◌, ◌-◌, List, length}
use Rattle.gf_reverse_search.specs.declared.mark.Mark.TheVariants.{Before}
use Rattle.gf_reverse_search.specs.Listing.{Leaves, IsLeftAt}
use Rattle.gf_reverse_search.specs.Standing.{StandsBelow}
use Rattle.gf_reverse_search.proofs.whole.list_all.Given as goal

abbrev pub invariant-loop-all : goal.invariant-loop-all
invariant-loop-all g l = record {
  tree : l.walker.tree ≡ l.fn.tree;
  at : (r : List _) × StandsBelow (g.T.Tree.up l.fn.tree) l.fn.top r l.walker.here l.walker.depth;
  rest : (nodes : List _) → Leaves g.T.Tree.before (g.T.Tree.up l.fn.tree) Before l.fn.top 0 nodes →
      (rest : List _) × (nodes ≡ l.all.items ++ rest) × IsLeftAt g.T.Tree.before g.T.Tree.up l.walker rest;
}

abbrev pub decreases-loop-all : goal.decreases-loop-all
decreases-loop-all g l = g.T.FiniteTree.count l.fn.tree l.fn.top - length l.all.items
