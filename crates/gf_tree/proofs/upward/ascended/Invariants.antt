use Rattle.std.proofs.Common.{List, ℤ}
use Rattle.gf_reverse_search.specs.Path.{Leads}
use Rattle.gf_reverse_theory.specs.Upward.{IsNode, IsParent}
use Rattle.gf_reverse_theory.proofs.TreeLaws.{rank}
use Rattle.gf_tree.proofs.upward.ascended.Given as goal

-- the way up from the first basis leads to the one at hand
abbrev pub invariant-up : goal.invariant-up
invariant-up l = record {
  is_node : IsNode l.tree.region l.node;
  path : (q : List (List ℤ)) × Leads (IsParent l.tree.region) l.node q l.fn.set;
}

abbrev pub decreases-up : goal.decreases-up
decreases-up l = rank l.tree.region l.node
