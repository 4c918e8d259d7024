use Rattle.gf_fan.proofs.BitLaws.{row_done}
use Rattle.gf_fan.proofs.bits.bits_of_row.Goals as goal

pub returns : goal.returns
returns c = row_done c.args.rays.now c.args.h.now c.loop-i.i _ c.loop-i-test.false c.loop-i.invariant.high c.loop-i.invariant.cut
