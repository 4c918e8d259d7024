use Rattle.std.proofs.Common.{◌≡◌, ◌++◌}
use Rattle.gf_fan.proofs.shared_cone.all_shared.Given as goal

abbrev pub invariant-loop-cone : goal.invariant-loop-cone
invariant-loop-cone l = (l.out.items ≡ l.yielded) × (l.yielded ++ l.cone-iterator.rest.items ≡ l.fn.cones.items)
