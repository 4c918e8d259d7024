use Rattle.std.proofs.Common.{take, ◌≡◌, ◌++◌}
use Rattle.gf_vec.proofs.lists.joined.Given as goal

abbrev pub invariant-loop-y : goal.invariant-loop-y
invariant-loop-y l = l.out.items ≡ l.fn.xs.items ++ take l.y-index l.ys
