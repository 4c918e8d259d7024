use Rattle.std.proofs.Common.{rules, pos, ◌+ℤ◌, get_or, FitsSigned, arith}
use Rattle.std.specs.Int.{w128, cast_signed}
use Rattle.std.proofs.lemmas.Int.{to_z-of_z, fits_signed_from_abs}
use Rattle.gf_vec.proofs.RootSignLaws.{added}
use Rattle.gf_vec.proofs.root_sign.sum_of.Goals as goal

pub loop-x-preserved : goal.loop-x-preserved
loop-x-preserved c =
    let fx : FitsSigned w128 (get_or c.args.xs.now c.loop-x.x-index (pos 0)) = search rules in
    let k = added c.args.xs.now c.loop-x.x-index (cast_signed w128 c.loop-x.sum-bits) _ c.loop-x-test.true c.requires c.loop-x.invariant in
    let fs : FitsSigned w128 (cast_signed w128 c.loop-x.sum-bits +ℤ get_or c.args.xs.now c.loop-x.x-index (pos 0)) =
    fits_signed_from_abs w128 _ (omega (arith, k.1)) in
    rw (to_z-of_z w128 _ fx, to_z-of_z w128 _ fs) k
