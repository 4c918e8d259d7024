use Rattle.std.proofs.Common.{sym}
use Rattle.gf_division.proofs.ReducerLaws.{member_variables}
use Rattle.gf_lifts.proofs.LiftsInTurnLaws.{rests_more}
use Rattle.gf_lifts.proofs.wide.rests.Goals as goal

pub rest_of-requires-clause-variables : goal.rest_of-requires-clause-variables
rest_of-requires-clause-variables c = member_variables c.args.set.now.variables c.args.below.now c.index-below-i.result c.requires.variables (
  c.members.i,
  c.members-test.true,
  sym c.index-below-i.is,
)

pub members-preserved : goal.members-preserved
members-preserved c = rests_more c.args.set.now.items c.args.below.now c.members.i c.index-below-i.result c.in_ok-rest.rest c.members.all.items
    c.push.new.self.items c.members-test.true c.index-below-i.is c.in_ok-rest.ensures c.in_ok-push.ensures.items c.members.invariant
