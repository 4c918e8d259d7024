use Rattle.std.proofs.Common.{take}
use Rattle.gf_flip.specs.Limits.{AreMonomials}
use Rattle.gf_flip.proofs.limits.see_terms.Given as goal

abbrev pub invariant-terms : goal.invariant-terms
invariant-terms l = AreMonomials (take l.i l.terms)
