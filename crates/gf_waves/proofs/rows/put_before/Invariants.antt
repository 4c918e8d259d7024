use Rattle.std.proofs.Common.{◌≡◌, ◌++◌, ◌+◌, ◌≤◌, length}
use Rattle.std.specs.VecDeque.{deque_capacity}
use Rattle.gf_waves.proofs.rows.put_before.Given as goal

-- the pieces that are left, and then those of the row, are all
abbrev pub invariant-loop-piece : goal.invariant-loop-piece
invariant-loop-piece g l = record {
  all : l.pieces.items ++ l.row.items ≡ l.fn.pieces.items ++ l.fn.row.items;
  room : length l.pieces.items + length l.row.items ≤ deque_capacity l.row;
  kept : deque_capacity l.fn.row ≤ deque_capacity l.row;
}

abbrev pub decreases-loop-piece : goal.decreases-loop-piece
decreases-loop-piece g l = length l.pieces.items
