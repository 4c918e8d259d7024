use Rattle.std.specs.Prelude.{IfSome}
use Rattle.gf_known_cone.proofs.NearLaws.{IsSeen}
use Rattle.gf_known_cone.proofs.near.seen_by.Given as goal

abbrev pub invariant-loop-k : goal.invariant-loop-k
invariant-loop-k l = IfSome l.zero (IsSeen l.normals l.near l.k)
