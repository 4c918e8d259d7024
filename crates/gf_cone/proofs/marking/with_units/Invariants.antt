use Rattle.std.proofs.Common.{◌≡◌, ◌++◌}
use Rattle.gf_facets_theory.specs.Systems.{units}
use Rattle.gf_cone.proofs.marking.with_units.Given as goal

abbrev pub invariant-variables : goal.invariant-variables
invariant-variables l = l.more.items ≡ l.fn.rows.items ++ units l.n l.i
