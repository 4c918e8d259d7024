use Rattle.std.proofs.Common.{◌≡◌, ◌++◌}
use Rattle.gf_cuts.proofs.inside.joined.Given as goal

abbrev pub invariant-loop-cone : goal.invariant-loop-cone
invariant-loop-cone l = (l.out.items ≡ l.fn.cones.items ++ l.yielded) × (l.yielded ++ l.cone-iterator.rest.items ≡ l.fn.more.items)
