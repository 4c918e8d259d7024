use Rattle.std.proofs.Common.{◌≤◌, ◌-◌, length}
use Rattle.gf_tree.proofs.LabelLaws.{AreLower, AreHigher}
use Rattle.gf_tree.proofs.steps.index_of.Given as goal

abbrev pub invariant-indices : goal.invariant-indices
invariant-indices l = record {
  ordered : l.low ≤ l.high;
  inside : l.high ≤ length l.list;
  lower : AreLower l.v l.list l.low;
  higher : AreHigher l.v l.list l.high;
}

abbrev pub decreases-indices : goal.decreases-indices
decreases-indices l = l.high - l.low
