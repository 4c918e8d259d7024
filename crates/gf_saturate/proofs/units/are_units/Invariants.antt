use Rattle.std.specs.Prelude.{ℕ, ◌<◌}
use Rattle.gf_saturate.specs.Saturating.{AddsNothing}
use Rattle.gf_saturate.proofs.units.are_units.Given as goal

abbrev pub invariant-variables : goal.invariant-variables
invariant-variables l = (j : ℕ) → j < l.k → AddsNothing l.n j l.set
