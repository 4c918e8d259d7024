use Rattle.std.proofs.Common.{rules, pos, get_or, FitsSigned, int_div, arith}
use Rattle.std.specs.Int.{w128}
use Rattle.std.proofs.lemmas.Int.{to_z-of_z}
use Rattle.std.proofs.lemmas.List.{get_or_default}
use Rattle.std.proofs.lemmas.List.Edits.{map_over_more}
use Rattle.gf_vec.proofs.content.divide_all.Goals as goal

pub loop-x-preserved : goal.loop-x-preserved
loop-x-preserved c =
    let fx : FitsSigned w128 (get_or c.loop-x.xs c.loop-x.x-index (pos 0)) = search rules in
    let fb : FitsSigned w128 c.args.by = search rules in
    let fq : FitsSigned w128 c.quotient.result = search rules in
    let inv = simp to_z-of_z at c.loop-x.invariant in
    let q = simp to_z-of_z at c.quotient.ensures in
    simp to_z-of_z (rw q (map_over_more (λ x. int_div x c.args.by) c.args.xs.now c.loop-x.xs c.loop-x.x-index (get_or c.loop-x.xs c.loop-x.x-index (pos 0))
    c.loop-x-test.true inv (get_or_default c.loop-x.xs c.loop-x.x-index _ _ (omega (arith, c.loop-x-test.true)))))
