use Rattle.std.proofs.Common.{◌≡◌, ◌∷◌, take}
use Rattle.gf_saturate.specs.Units.{variable_terms}
use Rattle.gf_saturate.proofs.units.with_variable.Given as goal

abbrev pub invariant-polynomials : goal.invariant-polynomials
invariant-polynomials l = l.all.items ≡ variable_terms l.n l.k ∷ take l.i l.set
