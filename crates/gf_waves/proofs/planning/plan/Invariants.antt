use Rattle.std.proofs.Common.{◌≤◌, ◌+◌, length}
use Rattle.std.specs.Vec.{vec_capacity}
use Rattle.gf_waves.specs.Plans.{AreSpare}
use Rattle.gf_waves.proofs.PlanLaws.{Goes}
use Rattle.gf_waves.proofs.planning.plan.Given as goal

-- a plan of what is left of the row goes on from the cells that are there, and there is room for the others
abbrev pub invariant-loop-spare : goal.invariant-loop-spare
invariant-loop-spare g l = record {
  spare : AreSpare l.spares.items;
  planned : Goes (length l.fn.spares.items) l.fn.row.items (length l.spares.items) l.row.items l.slots.items;
  room : length l.spares.items + length l.slots.items ≤ vec_capacity l.slots;
}

abbrev pub decreases-loop-spare : goal.decreases-loop-spare
decreases-loop-spare g l = length l.spares.items
