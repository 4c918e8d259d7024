use Rattle.std.proofs.Common.{below_more, ℕ, arith, refl}
use Rattle.gf_saturate.specs.Saturating.{AddsNothing}
use Rattle.gf_saturate.proofs.units.are_units.Goals as goal

pub variables-preserved : goal.variables-preserved
variables-preserved c =
    below_more (λ (j : ℕ). AddsNothing c.args.n j c.args.set.now) c.variables.k c.variables.invariant (c.if-not-is_unit.ensures refl)

pub returns : goal.returns
returns c = λ t j l. c.variables.invariant j (omega (arith, l, c.variables-test.false))
