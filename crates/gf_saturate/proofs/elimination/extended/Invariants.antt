use Rattle.std.proofs.Common.{◌≡◌, map, take}
use Rattle.gf_saturate.specs.Widening.{widened_term}
use Rattle.gf_saturate.proofs.elimination.extended.Given as goal

abbrev pub invariant-polynomials : goal.invariant-polynomials
invariant-polynomials l = l.all.items ≡ map (map widened_term) (take l.i l.set)
