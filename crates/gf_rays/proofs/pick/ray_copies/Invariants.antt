use Rattle.std.proofs.Common.{◌≡◌, take}
use Rattle.gf_rays.proofs.pick.ray_copies.Given as goal

abbrev pub invariant-loop-ray : goal.invariant-loop-ray
invariant-loop-ray l = l.out.items ≡ take l.ray-index l.rays
