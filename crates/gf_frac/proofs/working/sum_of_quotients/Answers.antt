use Rattle.std.proofs.Common.{FitsSigned, rules}
use Rattle.std.specs.Int.{w128}
use Rattle.std.proofs.lemmas.Int.{to_z-of_z}
use Rattle.gf_frac.proofs.WorkingLaws.{working_positive, working_common, working_range, sum_made}
use Rattle.gf_frac.proofs.working.sum_of_quotients.Goals as goal

pub lowest_by-requires-clause-positive : goal.lowest_by-requires-clause-positive
lowest_by-requires-clause-positive c =
    let fa : FitsSigned w128 c.args.a = c.ranges.a in
    let fc : FitsSigned w128 c.args.c = c.ranges.c in
    working_positive c.args.a c.args.c _ _ _ _ _ c.requires.left c.requires.right (simp to_z-of_z at c.in-Some.ensures)

pub lowest_by-requires-clause-divisor : goal.lowest_by-requires-clause-divisor
lowest_by-requires-clause-divisor c =
    let fa : FitsSigned w128 c.args.a = c.ranges.a in
    let fc : FitsSigned w128 c.args.c = c.ranges.c in
    (working_range c.args.a c.args.c _ _ _ _ _ c.requires.right (simp to_z-of_z at c.in-Some.ensures)).2

pub lowest_by-requires-clause-divisor_fits : goal.lowest_by-requires-clause-divisor_fits
lowest_by-requires-clause-divisor_fits c =
    let fa : FitsSigned w128 c.args.a = c.ranges.a in
    let fc : FitsSigned w128 c.args.c = c.ranges.c in
    (working_range c.args.a c.args.c _ _ _ _ _ c.requires.right (simp to_z-of_z at c.in-Some.ensures)).3

pub lowest_by-requires-clause-common : goal.lowest_by-requires-clause-common
lowest_by-requires-clause-common c =
    let fa : FitsSigned w128 c.args.a = c.ranges.a in
    let fc : FitsSigned w128 c.args.c = c.ranges.c in
    let fn : FitsSigned w128 c.in-Some.numerator = search rules in
    rw (to_z-of_z w128 _ fn) (working_common c.args.a c.args.c _ _ _ _ _ c.requires.left c.requires.right (simp to_z-of_z at c.in-Some.ensures))

pub returns : goal.returns
returns c =
    let fa : FitsSigned w128 c.args.a = c.ranges.a in
    let fc : FitsSigned w128 c.args.c = c.ranges.c in
    let fn : FitsSigned w128 c.in-Some.numerator = search rules in
    sum_made c.args.a c.args.c _ _ _ _ _ _ (simp to_z-of_z at c.in-Some.ensures) (simp to_z-of_z at c.lowest_by.ensures)
