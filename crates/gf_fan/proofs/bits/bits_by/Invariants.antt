use Rattle.std.proofs.Common.{get_or}
use Rattle.gf_rays.specs.Cones.{RowsAndRays}
use Rattle.gf_fan.specs.declared.bits.ConeBits.{ConeBits}
use Rattle.gf_fan.specs.Signs.{AreEach}
use Rattle.gf_fan.specs.Bits.{AreBitsOfCone}
use Rattle.gf_fan.proofs.bits.bits_by.Given as goal

abbrev pub invariant-loop-c : goal.invariant-loop-c
invariant-loop-c l = AreEach (λ k (z : ConeBits). (d : RowsAndRays) → AreBitsOfCone l.numbering (get_or l.cones k d) z) l.c-index l.out.items
