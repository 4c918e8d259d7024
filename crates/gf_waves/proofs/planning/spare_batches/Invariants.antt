use Rattle.std.proofs.Common.{◌≤◌, ◌-◌, length}
use Rattle.std.specs.Vec.{vec_capacity}
use Rattle.gf_waves.specs.Plans.{AreFreeBatches, AreNumbered}
use Rattle.gf_waves.proofs.planning.spare_batches.Given as goal

abbrev pub invariant-loop-alloc : goal.invariant-loop-alloc
invariant-loop-alloc g l = record {
  free : AreFreeBatches l.fn.cells l.batches.items;
  numbered : AreNumbered l.fn.first l.batches.items;
  few : length l.batches.items ≤ l.fn.count;
  room : l.fn.count ≤ vec_capacity l.batches;
}

abbrev pub decreases-loop-alloc : goal.decreases-loop-alloc
decreases-loop-alloc g l = l.fn.count - length l.batches.items
