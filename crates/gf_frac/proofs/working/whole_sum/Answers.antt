use Rattle.std.proofs.Common.{FitsSigned, rules}
use Rattle.std.specs.Int.{w128}
use Rattle.std.proofs.lemmas.Int.{to_z-of_z}
use Rattle.gf_frac.proofs.WorkingLaws.{whole_sum_fits, whole_sum_made}
use Rattle.gf_frac.proofs.working.whole_sum.Goals as goal

pub returns-in_default : goal.returns-in_default
returns-in_default c =
    let fa : FitsSigned w128 c.args.a = c.ranges.a in
    let fc : FitsSigned w128 c.args.c = c.ranges.c in
    λ h. (simp to_z-of_z at c.in_default.ensures) (whole_sum_fits c.args.a c.args.c h)

pub returns : goal.returns
returns c =
    let fa : FitsSigned w128 c.args.a = c.ranges.a in
    let fc : FitsSigned w128 c.args.c = c.ranges.c in
    let fn : FitsSigned w128 c.in-Some.numerator = search rules in
    let h = simp to_z-of_z at c.in-Some.ensures in
    rw (to_z-of_z w128 _ fn) (whole_sum_made c.args.a c.args.c c.in-Some.numerator c.requires.left c.requires.right h.0 h.1)
