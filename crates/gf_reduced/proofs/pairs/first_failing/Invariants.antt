use Rattle.gf_reduced.proofs.PairLaws.{AllVanishBefore}
use Rattle.gf_reduced.proofs.pairs.first_failing.Given as goal

abbrev pub invariant-members : goal.invariant-members
invariant-members l = AllVanishBefore l.by l.i
