use Rattle.std.proofs.Common.{◌≡◌, ◌++◌, ◌≤◌, length}
use Rattle.std.specs.Vec.{vec_capacity}
use Rattle.std.specs.VecDeque.{deque_capacity}
use Rattle.gf_waves.specs.Plans.{gathered}
use Rattle.gf_waves.proofs.planning.merge.Given as goal

-- the pieces that are there, and then those of the cells that are left, are all
abbrev pub invariant-loop-left : goal.invariant-loop-left
invariant-loop-left g l = record {
  all : l.row.items ++ gathered l.left l.batches.items ≡ gathered l.fn.cells l.fn.batches.items;
  room : length (gathered l.fn.cells l.fn.batches.items ++ l.fn.tail.items) ≤ deque_capacity l.row;
  few : length l.batches.items ≤ vec_capacity l.batches;
}

abbrev pub decreases-loop-left : goal.decreases-loop-left
decreases-loop-left g l = l.left
