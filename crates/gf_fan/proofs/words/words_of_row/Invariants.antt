use Rattle.std.proofs.Common.{◌*◌, take, drop}
use Rattle.gf_fan.specs.declared.bits.RowBits.{RowBits}
use Rattle.gf_fan.specs.Signs.{AreEach}
use Rattle.gf_fan.specs.Bits.{AreBitsOfRow}
use Rattle.gf_fan.proofs.words.words_of_row.Given as goal

abbrev pub invariant-loop-b : goal.invariant-loop-b
invariant-loop-b l = AreEach (λ b (s : RowBits). AreBitsOfRow (take 128 (drop (b * 128) l.rays)) l.h s) l.b l.out.items
