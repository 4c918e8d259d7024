use Rattle.std.proofs.Common.{◌≤ℤ◌, take, pos, All}
use Rattle.gf_vec.specs.Vector.{dot}
use Rattle.gf_refine.proofs.inside.is_up_on.Given as goal

abbrev pub invariant-loop-x : goal.invariant-loop-x
invariant-loop-x l = All (λ x. pos 0 ≤ℤ dot l.h x) (take l.x-index l.xs)
