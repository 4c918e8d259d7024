use Rattle.std.proofs.Common.{rules, ◌≡◌, pos, get_or, FitsSigned, ◌∙◌, refl}
use Rattle.std.specs.Int.{w128}
use Rattle.std.proofs.lemmas.Int.{to_z-of_z}
use Rattle.std.proofs.lemmas.Result.{err_from_is_err_and}
use Rattle.gf_vec.proofs.SumLaws.{Summed-entry, Summed-more, Summed-wide}
use Rattle.gf_vec.proofs.sum.add_onto.Goals as goal

pub returns-in_err-x-clause-wide : goal.returns-in_err-x-clause-wide
returns-in_err-x-clause-wide c =
    let fx : FitsSigned w128 (get_or c.loop-i.xs c.loop-i.i (pos 0)) = search rules in
    let fy : FitsSigned w128 (get_or c.args.ys.now c.loop-i.i (pos 0)) = search rules in
    let k = c.loop-i-test.true in
    let p = err_from_is_err_and c.from_residual.result c.from_residual.ensures.1 in
    rw (p.1, p.2) (Summed-wide _ _ _ _ _ _ _ (search rules) c.requires (to_z-of_z w128 _ fx ∙ Summed-entry _ _ _ _ (search rules) c.requires c.loop-i.invariant)
    (to_z-of_z w128 _ fy) c.in_err-x.ensures.0 c.in_err-x.ensures.1 c.loop-i.invariant)

pub loop-i-preserved : goal.loop-i-preserved
loop-i-preserved c =
    let fx : FitsSigned w128 (get_or c.loop-i.xs c.loop-i.i (pos 0)) = search rules in
    let fy : FitsSigned w128 (get_or c.args.ys.now c.loop-i.i (pos 0)) = search rules in
    let fz : FitsSigned w128 c.in_ok-x.field-0 = search rules in
    let e : get_or c.loop-i.xs c.loop-i.i (pos 0) ≡ get_or c.args.xs.now c.loop-i.i (pos 0) =
    Summed-entry _ _ _ _ (search rules) c.requires c.loop-i.invariant in
    simp to_z-of_z (Summed-more _ _ _ _ _ _ (search rules) c.requires (rw (← e) (simp to_z-of_z at c.in_ok-x.ensures.0))
    c.in_ok-x.ensures.1 refl c.loop-i.invariant)
