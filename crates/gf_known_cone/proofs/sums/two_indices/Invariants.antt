use Rattle.std.proofs.Common.{◌<◌, ◌≤◌, ◌-◌, length}
use Rattle.gf_known_cone.proofs.sums.two_indices.Given as goal

abbrev pub invariant-indices : goal.invariant-indices
invariant-indices l = (l.low ≤ l.high) × (l.high < length l.keys)

abbrev pub decreases-indices : goal.decreases-indices
decreases-indices l = l.high - l.low
