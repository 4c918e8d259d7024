use Rattle.std.proofs.Common.{◌≡◌, ◌++◌, ◌+◌, ◌-◌, ◌*◌, ◌≤◌, ℕ, List, length}
use Rattle.std.specs.VecDeque.{deque_capacity}
use Rattle.gf_reverse_search.specs.Pieces.{RefusesAt}
use Rattle.gf_waves.specs.Wave.{ExpandsOn}
use Rattle.gf_waves.proofs.batch.expand_on.Given as goal

-- what the row may become with the expansions and the room that are left, that stands behind what is done; and there is room for both
abbrev pub invariant-loop-left : goal.invariant-loop-left
invariant-loop-left g l = record {
  on : (n j i : ℕ) (news : List _) → n ≡ length l.fn.slot.row.items + l.fn.room - (length l.done.items + length l.row.items) →
      ExpandsOn g.T.Tree.before g.T.Tree.up (RefusesAt g.T.Tree.up g.T.Tree.refuses) l.left n l.row.items j i news →
      ExpandsOn g.T.Tree.before g.T.Tree.up (RefusesAt g.T.Tree.up g.T.Tree.refuses) l.fn.times l.fn.room l.fn.slot.row.items j i (l.done.items ++ news);
  few : length l.done.items + length l.row.items ≤ length l.fn.slot.row.items + l.fn.room;
  room : 64 ≤ deque_capacity l.row;
  room_for_done : 64 ≤ deque_capacity l.done;
}

abbrev pub decreases-loop-left : goal.decreases-loop-left
decreases-loop-left g l = 3 * l.left + length l.row.items
