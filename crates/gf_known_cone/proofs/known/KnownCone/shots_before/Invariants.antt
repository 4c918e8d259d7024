use Rattle.std.proofs.Common.{◌≡◌, ◌≤◌, length}
use Rattle.gf_known_cone.proofs.known.KnownCone.shots_before.Given as goal

abbrev pub invariant-loop-index : goal.invariant-loop-index
invariant-loop-index l = record { same : l.self ≡ l.initial.self; inside : l.end ≤ length l.self.normals }
