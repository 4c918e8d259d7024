use Rattle.std.proofs.Common.{take}
use Rattle.gf_saturate.specs.OneTerm.{HasOneTerm}
use Rattle.gf_saturate.proofs.monomials.has_one_term.Given as goal

abbrev pub invariant-polynomials : goal.invariant-polynomials
invariant-polynomials l = HasOneTerm (take l.i l.set) → ⊥
