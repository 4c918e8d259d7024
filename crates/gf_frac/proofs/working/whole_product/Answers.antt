use Rattle.std.proofs.Common.{FitsSigned, rules}
use Rattle.std.specs.Int.{w128}
use Rattle.std.proofs.lemmas.Int.{to_z-of_z}
use Rattle.gf_frac.proofs.WorkingLaws.{whole_product_fits, whole_product_made}
use Rattle.gf_frac.proofs.working.whole_product.Goals as goal

pub returns-in_default : goal.returns-in_default
returns-in_default c =
    let fa : FitsSigned w128 c.args.a = c.ranges.a in
    let fc : FitsSigned w128 c.args.c = c.ranges.c in
    λ h. (simp to_z-of_z at c.in_default.ensures) (whole_product_fits c.args.a c.args.c h)

pub returns : goal.returns
returns c =
    let fa : FitsSigned w128 c.args.a = c.ranges.a in
    let fc : FitsSigned w128 c.args.c = c.ranges.c in
    let fn : FitsSigned w128 c.in-Some.numerator = search rules in
    let h = simp to_z-of_z at c.in-Some.ensures in
    rw (to_z-of_z w128 _ fn) (whole_product_made c.args.a c.args.c c.in-Some.numerator h.0 h.1)
