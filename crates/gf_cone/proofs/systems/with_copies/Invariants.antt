use Rattle.std.proofs.Common.{◌≡◌, ◌++◌, take}
use Rattle.gf_cone.proofs.systems.with_copies.Given as goal

abbrev pub invariant-copies : goal.invariant-copies
invariant-copies l = l.more.items ≡ l.fn.list.items ++ take l.i l.from
