use Rattle.gf_reduced.proofs.CriteriaLaws.{PassedBefore}
use Rattle.gf_reduced.proofs.criteria.are_passed_from.Given as goal

abbrev pub invariant-later : goal.invariant-later
invariant-later l = PassedBefore l.by l.i l.j
