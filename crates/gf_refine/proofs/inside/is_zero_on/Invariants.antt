use Rattle.std.proofs.Common.{◌≡◌, take, pos, All}
use Rattle.gf_vec.specs.Vector.{dot}
use Rattle.gf_refine.proofs.inside.is_zero_on.Given as goal

abbrev pub invariant-loop-x : goal.invariant-loop-x
invariant-loop-x l = All (λ x. dot l.h x ≡ pos 0) (take l.x-index l.xs)
