use Rattle.std.proofs.Common.{take}
use Rattle.gf_rays.specs.Splitting.{AreValues}
use Rattle.gf_rays.proofs.split.values_on.Given as goal

abbrev pub invariant-loop-ray : goal.invariant-loop-ray
invariant-loop-ray l = AreValues l.h (take l.ray-index l.rays) l.values.items
