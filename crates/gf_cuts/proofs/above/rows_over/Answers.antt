use Rattle.std.proofs.Common.{ℕ, ◌<◌, [], length, get_or, refl, sym, subst}
use Rattle.gf_cuts.specs.Heights.{AreRowsOver}
use Rattle.gf_cuts.proofs.AboveLaws.{over_none, over_left, over_more, one_width, difference_at}
use Rattle.gf_cuts.proofs.above.rows_over.Goals as goal
use Rattle.gf_cuts.proofs.above.rows_over.Goals.{then-x-top+in_ok-difference+in_ok-push, else-x-top}

pub difference-requires : goal.difference-requires
difference-requires c =
    let A = c.args.points.now in
    let l : get_or c.args.indices.now c.loop-x.x-index 0 < length A = c.requires.indices c.loop-x.x-index 0 c.loop-x-test.true in
    one_width c.requires.wide.0 A c.args.top (get_or c.args.indices.now c.loop-x.x-index 0) c.index-points-top.result c.index-points-x.result c.requires.wide.1
    c.requires.top l c.index-points-top.is c.index-points-x.is

pub loop-x-init : goal.loop-x-init
loop-x-init c = subst (AreRowsOver c.args.points.now c.args.top []) (sym c.new-out.ensures.items) (over_none c.args.points.now c.args.top)

pub loop-x-preserved : goal.loop-x-preserved
loop-x-preserved c =
    let A = c.args.points.now in
    let indices = c.args.indices.now in
    let i = c.loop-x.x-index in
    let x : ℕ = get_or indices i 0 in
    let l : x < length A = c.requires.indices i 0 c.loop-x-test.true in
    elim c.if-x-top.branch [
      | then-x-top+in_ok-difference+in_ok-push w ↦
          rw w.out-is (over_more A c.args.top indices c.loop-x.out.items _ w.in_ok-difference.field-0 x i c.requires.top l c.loop-x-test.true refl
          (difference_at c.requires.wide.0 A c.args.top x w.index-points-top.result w.index-points-x.result w.in_ok-difference.field-0 c.requires.wide.1
          c.requires.top l w.index-points-top.is w.index-points-x.is w.in_ok-difference.ensures) w.in_ok-push.ensures.items c.loop-x.invariant)
      | else-x-top w ↦ rw w.out-is (over_left A c.args.top indices c.loop-x.out.items x i c.loop-x-test.true refl w.if-x-top.false c.loop-x.invariant)
    ]
