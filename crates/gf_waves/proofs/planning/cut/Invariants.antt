use Rattle.std.proofs.Common.{◌≡◌, ◌++◌, ◌+◌, ◌≤◌, length}
use Rattle.std.specs.VecDeque.{deque_capacity}
use Rattle.gf_waves.specs.Frontier.{first_batch, behind_batch}
use Rattle.gf_waves.proofs.planning.cut.Given as goal

-- the pieces that are taken, and then those that are to be taken of what is left of the row, are those of the cell
abbrev pub invariant-loop-pieces : goal.invariant-loop-pieces
invariant-loop-pieces g l = record {
  first : l.slot.items ++ first_batch l.pieces l.walkers l.row.items ≡ first_batch 8 1 l.fn.row.items;
  behind : behind_batch l.pieces l.walkers l.row.items ≡ behind_batch 8 1 l.fn.row.items;
  few : length l.slot.items + l.pieces ≤ 8;
  room : 64 ≤ deque_capacity l.slot;
  kept : deque_capacity l.fn.slot ≤ deque_capacity l.slot;
}

abbrev pub decreases-loop-pieces : goal.decreases-loop-pieces
decreases-loop-pieces g l = l.pieces
