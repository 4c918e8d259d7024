use Rattle.std.proofs.Common.{◌≤◌, length}
use Rattle.gf_known_cone.proofs.sums.merged.Given as goal

abbrev pub invariant-keys : goal.invariant-keys
invariant-keys l = l.end ≤ length l.placed

abbrev pub invariant-units : goal.invariant-units
invariant-units l = l.end ≤ length l.placed

abbrev pub decreases-units : goal.decreases-units
decreases-units l = l.end

abbrev pub invariant-rest : goal.invariant-rest
invariant-rest l = l.end ≤ length l.placed

abbrev pub decreases-rest : goal.decreases-rest
decreases-rest l = l.end
