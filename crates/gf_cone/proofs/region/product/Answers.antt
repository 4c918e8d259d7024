use Rattle.std.proofs.Common.{rules, refl, FitsSigned, ◌*ℤ◌}
use Rattle.std.specs.Int.{w128}
use Rattle.std.proofs.lemmas.Int.{to_z-of_z, fits_signed_from_abs}
use Rattle.gf_cone.proofs.RegionLaws.{product_small, product_fits}
use Rattle.gf_cone.proofs.region.product.Goals as goal

pub returns-clause-value : goal.returns-clause-value
returns-clause-value c =
    let fx : FitsSigned w128 c.args.x = search rules in
    let fy : FitsSigned w128 c.args.y = search rules in
    let s = product_small c.args.x c.args.y c.requires.left c.requires.right in
    let f : FitsSigned w128 (c.args.x *ℤ c.args.y) = fits_signed_from_abs w128 (c.args.x *ℤ c.args.y) (product_fits (c.args.x *ℤ c.args.y) s) in
    rw (to_z-of_z w128 c.args.x fx, to_z-of_z w128 c.args.y fy, to_z-of_z w128 (c.args.x *ℤ c.args.y) f) refl

pub returns-clause-small : goal.returns-clause-small
returns-clause-small c =
    let fx : FitsSigned w128 c.args.x = search rules in
    let fy : FitsSigned w128 c.args.y = search rules in
    let s = product_small c.args.x c.args.y c.requires.left c.requires.right in
    let f : FitsSigned w128 (c.args.x *ℤ c.args.y) = fits_signed_from_abs w128 (c.args.x *ℤ c.args.y) (product_fits (c.args.x *ℤ c.args.y) s) in
    rw (to_z-of_z w128 c.args.x fx, to_z-of_z w128 c.args.y fy, to_z-of_z w128 (c.args.x *ℤ c.args.y) f) s
