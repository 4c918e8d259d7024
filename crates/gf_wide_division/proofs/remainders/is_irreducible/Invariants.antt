use Rattle.std.proofs.Common.{take}
use Rattle.gf_division.specs.Reducers.{AreIrreducible}
use Rattle.gf_wide_division.specs.Values.{value_terms}
use Rattle.gf_wide_division.proofs.remainders.is_irreducible.Given as goal

abbrev pub invariant-terms : goal.invariant-terms
invariant-terms l = AreIrreducible l.by l.spared (take l.i (value_terms l.terms))
