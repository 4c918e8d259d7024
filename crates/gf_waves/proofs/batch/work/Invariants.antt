use Rattle.std.proofs.Common.{◌+◌, ◌≤◌, map, length}
use Rattle.std.specs.Vec.{vec_capacity}
use Rattle.std.specs.VecDeque.{deque_capacity}
use Rattle.gf_reverse_search.specs.Pieces.{RefusesAt}
use Rattle.gf_waves.specs.Plans.{AreFit, IsSpareRow}
use Rattle.gf_waves.proofs.BatchLaws.{GoesOn}
use Rattle.gf_waves.proofs.batch.work.Given as goal

-- what is still to be worked on with what is left goes on from what is worked on, and there is room for it
abbrev pub invariant-loop-alloc : goal.invariant-loop-alloc
invariant-loop-alloc g l = record {
  on : GoesOn g.T.Tree.before g.T.Tree.up (RefusesAt g.T.Tree.up g.T.Tree.refuses) l.fn.times l.fn.room l.fn.batch.slots.items (map (λ d. d.items)
      l.worked.items)
      l.left l.free l.slots.items;
  fit : AreFit l.slots.items;
  few : l.free ≤ 56;
  room : length l.slots.items + length l.worked.items ≤ vec_capacity l.worked;
  spare : IsSpareRow l.spare.items (deque_capacity l.spare);
}

abbrev pub decreases-loop-alloc : goal.decreases-loop-alloc
decreases-loop-alloc g l = length l.slots.items
