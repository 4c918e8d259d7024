use Rattle.std.proofs.Common.{take, All, pos, ◌≤ℤ◌}
use Rattle.gf_rays.proofs.split.none_negative.Given as goal

abbrev pub invariant-loop-v : goal.invariant-loop-v
invariant-loop-v l = All (λ z. pos 0 ≤ℤ z) (take l.v-index l.values)
