use Rattle.std.proofs.Common.{◌≡◌, ◌++◌, ◌*ℤ◌, negsuc, map, take, drop}
use Rattle.gf_vec.proofs.sum.negate_all.Given as goal

abbrev pub invariant-loop-x : goal.invariant-loop-x
invariant-loop-x l = l.xs ≡ map (λ x. negsuc 0 *ℤ x) (take l.x-index l.initial.xs) ++ drop l.x-index l.initial.xs
