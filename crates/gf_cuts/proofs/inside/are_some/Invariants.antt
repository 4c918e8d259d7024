use Rattle.std.proofs.Common.{List, ℤ, take, Contains}
use Rattle.gf_cuts.proofs.inside.are_some.Given as goal

abbrev pub invariant-loop-x : goal.invariant-loop-x
invariant-loop-x l = (x : List ℤ) → Contains (take l.x-index l.xs) x → Contains l.ys x
