use Rattle.std.proofs.Common.{[], length, arith, get_or}
use Rattle.gf_fan.specs.declared.bits.RowBits.{RowBits}
use Rattle.gf_fan.specs.Bits.{AreBitsOfRow}
use Rattle.gf_fan.proofs.EachLaws.{read_more, each_done}
use Rattle.gf_fan.proofs.bits.bits_of_each.Goals as goal

pub loop-h-preserved : goal.loop-h-preserved
loop-h-preserved c = read_more (AreBitsOfRow c.args.rays.now) c.args.rows.now [] c.loop-h.h-index c.h-item.result c.bits_of_row.result c.loop-h.out.items _
    c.loop-h-test.true c.h-item.is c.in_ok-push.ensures.items c.bits_of_row.ensures c.loop-h.invariant

pub returns : goal.returns
returns c = each_done (λ k (s : RowBits). AreBitsOfRow c.args.rays.now (get_or c.args.rows.now k []) s) (length c.args.rows.now)
    c.loop-h.h-index c.loop-h.out.items (omega arith) c.loop-h-test.false c.loop-h.invariant
