use Rattle.std.proofs.Common.{◌≡◌, ◌+◌, List, [], length}
use Rattle.gf_reverse_search.specs.declared.mark.Mark.TheVariants.{After}
use Rattle.gf_reverse_search.specs.Left.{IsBelowMark}
use Rattle.gf_reverse_search.specs.Path.{Leads}
use Rattle.gf_reverse_search.specs.Standing.{StandsBelow}
use Rattle.gf_reverse_search.proofs.ClimbLaws.{Stands}
use Rattle.gf_reverse_search.proofs.search.climb.Given as goal

abbrev pub invariant-loop-depth : goal.invariant-loop-depth
invariant-loop-depth g l = record {
  past : IsBelowMark g.T.Tree.before l.mark [] → ⊥;
  way : (q : List _) × Leads (g.T.Tree.up l.tree) l.node q l.fn.start × (length q + l.depth ≡ l.fn.start_depth);
  is_node : g.T.Tree.is_node l.tree l.node;
  stands : (top : _) (r : List _) → StandsBelow (g.T.Tree.up l.tree) top r l.fn.start l.fn.start_depth →
      Stands g.T.Tree.before (g.T.Tree.up l.tree) top (After l.fn.label) r l.node l.mark l.depth;
}

abbrev pub decreases-loop-depth : goal.decreases-loop-depth
decreases-loop-depth g l = l.depth
