use Rattle.std.proofs.Common.{◌≡◌, map, take}
use Rattle.gf_saturate.specs.Widening.{narrowed_term}
use Rattle.gf_saturate.proofs.narrowing.narrowed_terms.Given as goal

abbrev pub invariant-terms : goal.invariant-terms
invariant-terms l = l.all.items ≡ map (narrowed_term l.n) (take l.i l.terms)
