use Rattle.std.proofs.Common.{[], get_or}
use Rattle.gf_fan.specs.declared.bits.RowBits.{RowBits}
use Rattle.gf_fan.specs.Signs.{AreEach}
use Rattle.gf_fan.specs.Bits.{AreBitsOfRow}
use Rattle.gf_fan.proofs.bits.bits_of_each.Given as goal

abbrev pub invariant-loop-h : goal.invariant-loop-h
invariant-loop-h l = AreEach (λ k (s : RowBits). AreBitsOfRow l.rays (get_or l.rows k []) s) l.h-index l.out.items
