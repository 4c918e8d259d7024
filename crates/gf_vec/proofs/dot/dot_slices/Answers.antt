use Rattle.std.proofs.Common.{rules, pos, get_or, FitsSigned}
use Rattle.std.specs.Int.{w128}
use Rattle.std.proofs.lemmas.Int.{to_z-of_z}
use Rattle.std.proofs.lemmas.Result.{err_from_is_err_and}
use Rattle.gf_vec.proofs.DotSteps.{Kept-more, Kept-mul, Kept-add}
use Rattle.gf_vec.proofs.dot.dot_slices.Goals as goal

pub loop-i-preserved : goal.loop-i-preserved
loop-i-preserved c =
    let fx : FitsSigned w128 (get_or c.args.xs.now c.loop-i.i (pos 0)) = search rules in
    let fy : FitsSigned w128 (get_or c.args.ys.now c.loop-i.i (pos 0)) = search rules in
    let fp : FitsSigned w128 c.in_ok-product.field-0 = search rules in
    let fs : FitsSigned w128 c.in_ok-sum.sum = search rules in
    let old : FitsSigned w128 c.loop-i.sum = search rules in
    rw (to_z-of_z w128 c.in_ok-sum.sum fs)
    (Kept-more _ _ _ _ _ _ _ _ c.loop-i-test.true c.requires
    (to_z-of_z w128 _ fx) (to_z-of_z w128 _ fy)
    c.in_ok-product.ensures.0 c.in_ok-product.ensures.1
    (simp to_z-of_z at c.in_ok-sum.ensures.0) c.in_ok-sum.ensures.1 c.loop-i.invariant)

pub returns-in_err-product-clause-wide : goal.returns-in_err-product-clause-wide
returns-in_err-product-clause-wide c =
    let fx : FitsSigned w128 (get_or c.args.xs.now c.loop-i.i (pos 0)) = search rules in
    let fy : FitsSigned w128 (get_or c.args.ys.now c.loop-i.i (pos 0)) = search rules in
    let p = err_from_is_err_and c.from_residual.result c.from_residual.ensures.1 in
    rw (p.1, p.2) (Kept-mul _ _ _ _ _ _ _ c.loop-i-test.true c.requires (to_z-of_z w128 _ fx) (to_z-of_z w128 _ fy)
    c.in_err-product.ensures.0 c.in_err-product.ensures.1 c.loop-i.invariant)

pub returns-in_err-sum-clause-wide : goal.returns-in_err-sum-clause-wide
returns-in_err-sum-clause-wide c =
    let fx : FitsSigned w128 (get_or c.args.xs.now c.loop-i.i (pos 0)) = search rules in
    let fy : FitsSigned w128 (get_or c.args.ys.now c.loop-i.i (pos 0)) = search rules in
    let fp : FitsSigned w128 c.in_ok-product.field-0 = search rules in
    let p = err_from_is_err_and c.from_residual-in_err-sum.result c.from_residual-in_err-sum.ensures.1 in
    rw (p.1, p.2) (Kept-add _ _ _ _ _ _ _ _ c.loop-i-test.true c.requires (to_z-of_z w128 _ fx) (to_z-of_z w128 _ fy)
    c.in_ok-product.ensures.0 c.in_ok-product.ensures.1 (simp to_z-of_z at c.in_err-sum.ensures.0) c.in_err-sum.ensures.1 c.loop-i.invariant)
