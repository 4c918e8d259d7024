use Rattle.std.proofs.Common.{pos, ◌-ℤ◌, FitsSigned, arith}
use Rattle.std.specs.Int.{w128}
use Rattle.std.proofs.lemmas.Int.{ints, to_z-of_z, to_z_pos, fits_signed_from_abs}
use Rattle.gf_vec.proofs.WeightLaws.{share_bound}
use Rattle.gf_vec.proofs.weight.share.Goals as goal

pub overflow_mul-result : goal.overflow_mul-result
overflow_mul-result c =
    let fe = c.ranges.entry in
    let fd : FitsSigned w128 (pos c.args.x -ℤ pos c.args.y) = fits_signed_from_abs w128 _ (omega (arith, ints, c.ranges.x.fits, c.ranges.y.fits)) in
    rw (
      to_z-of_z w128 _ fe,
      to_z_pos w128 c.args.x (omega (arith, c.ranges.x.fits)),
      to_z_pos w128 c.args.y (omega (arith, c.ranges.y.fits)),
      to_z-of_z w128 _ fd,
    )
    (fits_signed_from_abs w128 _ (omega (arith, share_bound c.args.entry c.args.x c.args.y c.requires c.ranges.x.fits c.ranges.y.fits)))

pub returns-clause-value : goal.returns-clause-value
returns-clause-value c =
    let fe = c.ranges.entry in
    let fd : FitsSigned w128 (pos c.args.x -ℤ pos c.args.y) = fits_signed_from_abs w128 _ (omega (arith, ints, c.ranges.x.fits, c.ranges.y.fits)) in
    rw (
      to_z-of_z w128 _ fe,
      to_z_pos w128 c.args.x (omega (arith, c.ranges.x.fits)),
      to_z_pos w128 c.args.y (omega (arith, c.ranges.y.fits)),
      to_z-of_z w128 _ fd,
    )
    (to_z-of_z w128 _ (fits_signed_from_abs w128 _ (omega (arith, share_bound c.args.entry c.args.x c.args.y c.requires c.ranges.x.fits c.ranges.y.fits))))

pub returns-clause-bound : goal.returns-clause-bound
returns-clause-bound c = rw (returns-clause-value c) (share_bound c.args.entry c.args.x c.args.y c.requires c.ranges.x.fits c.ranges.y.fits)
