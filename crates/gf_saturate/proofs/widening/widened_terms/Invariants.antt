use Rattle.std.proofs.Common.{◌≡◌, map, take}
use Rattle.gf_saturate.specs.Widening.{widened_term}
use Rattle.gf_saturate.proofs.widening.widened_terms.Given as goal

abbrev pub invariant-terms : goal.invariant-terms
invariant-terms l = l.all.items ≡ map widened_term (take l.i l.terms)
