use Rattle.std.proofs.Common.{arith, rules, FitsSigned, ◌+ℤ◌, get_or, pos, to_z}
use Rattle.std.specs.Int.{w64, w128}
use Rattle.std.proofs.lemmas.Int.{to_z-of_z, fits_signed_from_abs}
use Rattle.gf_cone.proofs.NarrowLaws.{sum_short, sum_short_fits, short_fits}
use Rattle.gf_cone.proofs.RegionLaws.{dot_step}
use Rattle.gf_cone.proofs.narrow.short_dot.Goals as goal

pub entries-preserved : goal.entries-preserved
entries-preserved c =
    let xs = c.args.xs.now in
    let ys = c.args.ys.now in
    let i = c.entries.i in
    let z = c.short_product-sum.result in
    let sum = to_z w64 c.entries.sum-bits in
    let fx : FitsSigned w128 (get_or xs i (pos 0)) = search rules in
    let fy : FitsSigned w128 (get_or ys i (pos 0)) = search rules in
    let fz : FitsSigned w64 z = fits_signed_from_abs w64 z (short_fits z c.short_product-sum.ensures.small) in
    let s = sum_short i sum z c.entries.invariant.1 c.short_product-sum.ensures.small in
    let fs : FitsSigned w64 (sum +ℤ z) =
    fits_signed_from_abs w64 (sum +ℤ z) (sum_short_fits i _ (sum +ℤ z) (omega (arith, c.entries-test.true, c.requires.width)) c.requires.few s) in
    rw (to_z-of_z w64 z fz, to_z-of_z w64 (sum +ℤ z) fs) (
      dot_step xs ys i sum z _ _ c.entries-test.true (omega (arith, c.entries-test.true, c.requires.width)) (to_z-of_z w128 _ fx) (to_z-of_z w128 _ fy)
          c.short_product-sum.ensures.value c.entries.invariant.0,
      s,
    )
