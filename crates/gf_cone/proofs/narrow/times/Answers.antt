use Rattle.std.proofs.Common.{rules, refl, FitsSigned, ◌*ℤ◌}
use Rattle.std.specs.Int.{w64}
use Rattle.std.proofs.lemmas.Int.{to_z-of_z, fits_signed_from_abs}
use Rattle.gf_cone.proofs.NarrowLaws.{product_short, short_fits}
use Rattle.gf_cone.proofs.narrow.times.Goals as goal

pub returns-clause-value : goal.returns-clause-value
returns-clause-value c =
    let fx : FitsSigned w64 c.args.x = search rules in
    let fy : FitsSigned w64 c.args.y = search rules in
    let s = product_short c.args.x c.args.y c.requires.left c.requires.right in
    let f : FitsSigned w64 (c.args.x *ℤ c.args.y) = fits_signed_from_abs w64 (c.args.x *ℤ c.args.y) (short_fits (c.args.x *ℤ c.args.y) s) in
    rw (to_z-of_z w64 c.args.x fx, to_z-of_z w64 c.args.y fy, to_z-of_z w64 (c.args.x *ℤ c.args.y) f) refl

pub returns-clause-small : goal.returns-clause-small
returns-clause-small c =
    let fx : FitsSigned w64 c.args.x = search rules in
    let fy : FitsSigned w64 c.args.y = search rules in
    let s = product_short c.args.x c.args.y c.requires.left c.requires.right in
    let f : FitsSigned w64 (c.args.x *ℤ c.args.y) = fits_signed_from_abs w64 (c.args.x *ℤ c.args.y) (short_fits (c.args.x *ℤ c.args.y) s) in
    rw (to_z-of_z w64 c.args.x fx, to_z-of_z w64 c.args.y fy, to_z-of_z w64 (c.args.x *ℤ c.args.y) f) s
