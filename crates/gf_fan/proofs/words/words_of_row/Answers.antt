use Rattle.std.proofs.Common.{◌≤◌, ◌+◌, ◌*◌, ◌/◌, List, ℤ, length, take, drop, arith, sym, subst}
use Rattle.gf_gordan.specs.Alternative.{AreRows}
use Rattle.gf_fan.specs.declared.bits.RowBits.{RowBits}
use Rattle.gf_fan.specs.Bits.{AreBitsOfRow}
use Rattle.gf_fan.proofs.EachLaws.{each_more, each_done}
use Rattle.gf_fan.proofs.WordLaws.{block_long, block_width}
use Rattle.gf_fan.proofs.words.words_of_row.Goals as goal

pub bits_of_row-requires-clause-count : goal.bits_of_row-requires-clause-count
bits_of_row-requires-clause-count c = subst (λ (w : List (List ℤ)). length w ≤ 128) (sym c.block.ensures) (block_long c.args.rays.now (c.loop-b.b * 128))

pub bits_of_row-requires-clause-width : goal.bits_of_row-requires-clause-width
bits_of_row-requires-clause-width c = subst (AreRows (length c.args.h.now)) (sym c.block.ensures)
    (block_width (length c.args.h.now) c.args.rays.now (c.loop-b.b * 128) c.requires)

pub loop-b-preserved : goal.loop-b-preserved
loop-b-preserved c = each_more (λ b (s : RowBits). AreBitsOfRow (take 128 (drop (b * 128) c.args.rays.now)) c.args.h.now s) c.loop-b.b c.bits_of_row.result
    c.loop-b.out.items _ c.in_ok-push.ensures.items
    (subst (λ (w : List (List ℤ)). AreBitsOfRow w c.args.h.now c.bits_of_row.result) c.block.ensures c.bits_of_row.ensures) c.loop-b.invariant

pub returns : goal.returns
returns c = each_done (λ b (s : RowBits). AreBitsOfRow (take 128 (drop (b * 128) c.args.rays.now)) c.args.h.now s) (length c.args.rays.now / 128 + 1) c.loop-b.b
    c.loop-b.out.items (omega arith) (omega arith) c.loop-b.invariant
