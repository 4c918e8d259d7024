use Rattle.std.proofs.Common.{◌≡◌, ◌≤◌, ◌++◌, List, length}
use Rattle.std.specs.Vec.{vec_capacity}
use Rattle.gf_waves.specs.Plans.{AreFit, IsDealt, hands_of}
use Rattle.gf_waves.proofs.PlanLaws.{AreOpenHands}
use Rattle.gf_waves.proofs.planning.deal.Given as goal

-- the cells that aren't there any more are dealt out, and each batch has room for the others
abbrev pub invariant-loop-slot : goal.invariant-loop-slot
invariant-loop-slot g l = record {
  dealt : (dealt : List _) × (l.fn.slots.items ≡ l.slots.items ++ dealt) × IsDealt dealt (hands_of l.batches.items);
  fit : AreFit l.slots.items;
  open_hands : AreOpenHands (length l.slots.items) l.batches.items;
  count : length l.batches.items ≡ length l.fn.batches.items;
  room : length l.batches.items ≤ vec_capacity l.batches;
}

abbrev pub decreases-loop-slot : goal.decreases-loop-slot
decreases-loop-slot g l = length l.slots.items
