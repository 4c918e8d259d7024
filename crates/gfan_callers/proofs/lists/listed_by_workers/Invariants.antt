use Rattle.gf_tree.specs.Walks.{walk_at}
use Rattle.gf_subtree.specs.Rows.{row_left_at_most}
use Rattle.gfan_callers.specs.Lists.{HaveGiven}
use Rattle.gfan_callers.proofs.lists.listed_by_workers.Given as goal

-- some bases were given, and the others are left
abbrev pub invariant-loop-all : goal.invariant-loop-all
invariant-loop-all g l = HaveGiven (walk_at l.fn.top l.fn.region l.fn.pairs) l.all.items l.waves

abbrev pub decreases-loop-all : goal.decreases-loop-all
decreases-loop-all g l = row_left_at_most l.waves
