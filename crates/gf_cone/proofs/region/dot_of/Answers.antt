use Rattle.std.proofs.Common.{arith, rules, FitsSigned, ◌+ℤ◌, get_or, pos, to_z}
use Rattle.std.specs.Int.{w128}
use Rattle.std.proofs.lemmas.Int.{to_z-of_z, fits_signed_from_abs}
use Rattle.gf_cone.proofs.RegionLaws.{dot_step, sum_small, sum_fits, product_fits}
use Rattle.gf_cone.proofs.region.dot_of.Goals as goal

pub entries-preserved : goal.entries-preserved
entries-preserved c =
    let xs = c.args.xs.now in
    let ys = c.args.ys.now in
    let i = c.entries.i in
    let z = c.product-sum.result in
    let sum = to_z w128 c.entries.sum-bits in
    let fx : FitsSigned w128 (get_or xs i (pos 0)) = search rules in
    let fy : FitsSigned w128 (get_or ys i (pos 0)) = search rules in
    let fz : FitsSigned w128 z = fits_signed_from_abs w128 z (product_fits z c.product-sum.ensures.small) in
    let s = sum_small i sum z c.entries.invariant.1 c.product-sum.ensures.small in
    let fs : FitsSigned w128 (sum +ℤ z) =
    fits_signed_from_abs w128 (sum +ℤ z) (sum_fits i _ (sum +ℤ z) (omega (arith, c.entries-test.true, c.requires.width)) c.requires.few s) in
    rw (to_z-of_z w128 z fz, to_z-of_z w128 (sum +ℤ z) fs) (
      dot_step xs ys i sum z _ _ c.entries-test.true (omega (arith, c.entries-test.true, c.requires.width)) (to_z-of_z w128 _ fx) (to_z-of_z w128 _ fy)
          c.product-sum.ensures.value c.entries.invariant.0,
      s,
    )
