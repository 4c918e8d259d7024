use Rattle.std.proofs.Common.{rules, FitsSigned, get_or, pos}
use Rattle.std.specs.Int.{w128}
use Rattle.std.proofs.lemmas.Int.{to_z-of_z}
use Rattle.gf_cuts.proofs.MarkLaws.{marks_more}
use Rattle.gf_cuts.proofs.marks.marks.Goals as goal

pub loop-k-preserved : goal.loop-k-preserved
loop-k-preserved c =
    let left = c.as_slice-left.result.now in
    let right = c.as_slice-right.result.now in
    let fz : FitsSigned w128 c.mark.result = search rules in
    let fx : FitsSigned w128 (get_or left c.loop-k.k (pos 0)) = search rules in
    let fy : FitsSigned w128 (get_or right c.loop-k.k (pos 0)) = search rules in
    marks_more left right c.loop-k.k c.loop-k.out.items _ c.mark.result (simp to_z-of_z at c.in_ok-push.ensures.items) (simp to_z-of_z at c.mark.ensures)
    c.loop-k.invariant
