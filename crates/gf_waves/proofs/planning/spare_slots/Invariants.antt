use Rattle.std.proofs.Common.{◌≤◌, ◌-◌, length}
use Rattle.std.specs.Vec.{vec_capacity}
use Rattle.gf_waves.specs.Plans.{AreSpare}
use Rattle.gf_waves.proofs.planning.spare_slots.Given as goal

abbrev pub invariant-loop-alloc : goal.invariant-loop-alloc
invariant-loop-alloc g l = record {
  spare : AreSpare l.slots.items;
  few : length l.slots.items ≤ l.fn.count;
  room : l.fn.count ≤ vec_capacity l.slots;
}

abbrev pub decreases-loop-alloc : goal.decreases-loop-alloc
decreases-loop-alloc g l = l.fn.count - length l.slots.items
