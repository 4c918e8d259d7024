use Rattle.gf_reduced.proofs.PairLaws.{VanishBefore}
use Rattle.gf_reduced.proofs.pairs.failing_with.Given as goal

abbrev pub invariant-later : goal.invariant-later
invariant-later l = VanishBefore l.by l.i l.j
