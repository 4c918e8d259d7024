use Rattle.std.proofs.Common.{◌≤◌, ◌-◌, length}
use Rattle.gf_cone.proofs.ListingLaws.{AreLower, IsHigher}
use Rattle.gf_cone.proofs.listing.index_in.Given as goal

abbrev pub invariant-indices : goal.invariant-indices
invariant-indices l = record {
  ordered : l.low ≤ l.high;
  inside : l.high ≤ length l.list;
  lower : AreLower l.v l.low l.list;
  higher : IsHigher l.v l.high l.list;
}

abbrev pub decreases-indices : goal.decreases-indices
decreases-indices l = l.high - l.low
