use Rattle.gf_division.proofs.ReducerLaws.{member_at, member_contained}
use Rattle.gf_lifts.proofs.TailSteps.{reduced_at}
use Rattle.gf_lifts.proofs.tails.reduced_lift.Goals as goal

pub reduced_tail-requires-clause-member : goal.reduced_tail-requires-clause-member
reduced_tail-requires-clause-member c = member_contained c.args.lifts.now c.args.at c.index-lifts-at.result
    (member_at c.args.lifts.now c.args.at c.index-lifts-at.result c.requires.inside c.index-lifts-at.is)

pub returns-in-Ok-reduced_tail : goal.returns-in-Ok-reduced_tail
returns-in-Ok-reduced_tail c = reduced_at c.args.lifts.now c.index-lifts-at.result c.in-Ok-reduced_tail.member c.args.at c.requires.inside c.index-lifts-at.is
    c.in-Ok-reduced_tail.ensures.tail c.in-Ok-reduced_tail.ensures.reached c.in-Ok-reduced_tail.ensures.form
