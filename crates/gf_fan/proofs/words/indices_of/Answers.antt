use Rattle.std.proofs.Common.{sym}
use Rattle.gf_fan.proofs.NumberLaws.{number_of}
use Rattle.gf_fan.proofs.WordLaws.{index_more}
use Rattle.gf_fan.proofs.words.indices_of.Goals as goal
use Rattle.gf_fan.proofs.words.indices_of.Goals.{in-Some+in_ok-push, in_default}

pub loop-h-preserved : goal.loop-h-preserved
loop-h-preserved c = elim c.match-get_index_of.branch [
  | in-Some+in_ok-push w ↦
      rw w.out-is (index_more c.args.rays.now c.args.items.now.keys c.args.rows.now c.args.known.now c.loop-h.h-index w.in-Some.k c.h-item.result
      c.loop-h.out.items _ c.requires c.loop-h-test.true c.h-item.is
      (number_of c.args.items.now.keys c.h-item.result w.in-Some.k (sym w.in-Some.ensures.index)) w.in_ok-push.ensures.items c.loop-h.invariant)
  | in_default w ↦ rw w.out-is c.loop-h.invariant
]
