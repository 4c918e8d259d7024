use Rattle.gf_reduced.proofs.CriteriaLaws.{all_passed_next}
use Rattle.gf_reduced.proofs.criteria.are_all_passed.Goals as goal

pub members-preserved : goal.members-preserved
members-preserved c = all_passed_next c.args.by.now c.members.i (c.in_ok-are_passed_from.ensures.yes c.if-not-branch.false) c.members.invariant
