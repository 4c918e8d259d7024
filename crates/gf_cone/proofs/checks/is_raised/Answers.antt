use Rattle.std.proofs.Common.{arith, length}
use Rattle.gf_facets_theory.specs.Systems.{unit}
use Rattle.gf_facets_theory.proofs.UnitLaws.{length-unit}
use Rattle.gf_cone.proofs.CrossingLaws.{sum_by_entries}
use Rattle.gf_cone.proofs.checks.is_raised.Goals as goal

pub returns : goal.returns
returns c = λ t. sum_by_entries c.args.a.now c.args.b.now (unit (length c.args.a.now) c.args.at) c.requires (length-unit (length c.args.a.now) c.args.at)
    (λ i l. c.loop-i.invariant i (omega (arith, l, c.loop-i-test.false)))
