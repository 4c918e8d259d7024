use Rattle.std.proofs.Common.{take, ◌≡◌}
use Rattle.gf_vec.proofs.lists.copied.Given as goal

abbrev pub invariant-loop-x : goal.invariant-loop-x
invariant-loop-x l = l.out.items ≡ take l.x-index l.xs
