use Rattle.std.proofs.Common.{get_or}
use Rattle.gf_rays.specs.Cones.{RowsAndRays}
use Rattle.gf_fan.specs.ConeParts.{HasRowsAndRaysOf}
use Rattle.gf_fan.specs.MaximalCones.{no_cone}
use Rattle.gf_fan.specs.Signs.{AreEach}
use Rattle.gf_fan.proofs.whole.whole_cones.Given as goal

abbrev pub invariant-loop-i : goal.invariant-loop-i
invariant-loop-i l = AreEach (λ k (w : RowsAndRays). HasRowsAndRaysOf w (get_or l.cones (get_or l.indices k 0) no_cone).cone) l.i-index l.out.items
