use Rattle.std.proofs.Common.{take}
use Rattle.std.specs.Prelude.{None}
use Rattle.gf_division.specs.Reducers.{AreIrreducible}
use Rattle.gf_whole_division.specs.Values.{whole_terms}
use Rattle.gf_whole_division.proofs.remainders.is_irreducible.Given as goal

abbrev pub invariant-terms : goal.invariant-terms
invariant-terms l = AreIrreducible l.by None (whole_terms (take l.i l.terms))
