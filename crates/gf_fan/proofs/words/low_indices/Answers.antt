use Rattle.std.proofs.Common.{IsTrue, ℕ, get_or}
use Rattle.std.proofs.lemmas.List.{get_or_default}
use Rattle.gf_fan.proofs.WordLaws.{low_more}
use Rattle.gf_fan.proofs.words.low_indices.Goals as goal
use Rattle.gf_fan.proofs.words.low_indices.Goals.{then-is_low+in_ok-push, else-is_low}

pub loop-p-preserved : goal.loop-p-preserved
loop-p-preserved c = elim c.if-is_low.branch [
  | then-is_low+in_ok-push w ↦
      let t : IsTrue c.is_low.result = w.if-is_low.true in
      let p : ℕ = get_or c.args.indices.now c.loop-p.p-index 0 in
      rw w.out-is (low_more c.args.known.now c.args.indices.now c.args.own.now c.loop-p.out.items _ c.loop-p.p-index p c.index-known-p.result
      c.as_slice.result.now c.loop-p-test.true (get_or_default c.args.indices.now c.loop-p.p-index 0 p c.loop-p-test.true)
      (c.requires.indices c.loop-p.p-index 0 c.loop-p-test.true) c.index-known-p.is c.as_slice.ensures (c.is_low.ensures t) w.in_ok-push.ensures.items
      c.loop-p.invariant)
  | else-is_low w ↦ rw w.out-is c.loop-p.invariant
]
