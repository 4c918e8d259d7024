use Rattle.std.proofs.Common.{List, [], length, arith, get_or}
use Rattle.gf_fan.specs.declared.bits.RowBits.{RowBits}
use Rattle.gf_fan.specs.Words.{AreWordsOfRow}
use Rattle.gf_fan.proofs.EachLaws.{read_more, each_done}
use Rattle.gf_fan.proofs.words.words_of_rows.Goals as goal

pub loop-h-preserved : goal.loop-h-preserved
loop-h-preserved c = read_more (AreWordsOfRow c.args.rays.now) c.args.rows.now [] c.loop-h.h-index c.h-item.result c.in_ok-words_of_row.field-0
    c.loop-h.out.items _ c.loop-h-test.true c.h-item.is c.in_ok-push.ensures.items c.in_ok-words_of_row.ensures c.loop-h.invariant

pub returns : goal.returns
returns c = each_done (λ k (s : List RowBits). AreWordsOfRow c.args.rays.now (get_or c.args.rows.now k []) s) (length c.args.rows.now)
    c.loop-h.h-index c.loop-h.out.items (omega arith) c.loop-h-test.false c.loop-h.invariant
