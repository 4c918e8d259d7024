use Rattle.gf_reduced.proofs.CriteriaLaws.{AllPassedBefore}
use Rattle.gf_reduced.proofs.criteria.are_all_passed.Given as goal

abbrev pub invariant-members : goal.invariant-members
invariant-members l = AllPassedBefore l.by l.i
