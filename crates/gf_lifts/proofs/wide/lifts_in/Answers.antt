use Rattle.gf_lifts.proofs.LiftsInTurnLaws.{lifts_in_more}
use Rattle.gf_lifts.proofs.wide.lifts_in.Goals as goal

pub members-preserved : goal.members-preserved
members-preserved c = lifts_in_more c.args.done.now c.args.below.now c.members.i c.index-below-i.result c.in_ok-lift.lift c.members.all.items
    c.push.new.self.items c.members-test.true c.index-below-i.is c.in_ok-lift.ensures c.in_ok-push.ensures.items c.members.invariant
