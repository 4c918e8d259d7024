use Rattle.gf_strands.proofs.AlongLaws.{members_more}
use Rattle.gf_strands.proofs.along.parts.Goals as goal

pub members-preserved : goal.members-preserved
members-preserved c = members_more c.args.normal.now c.args.items.now c.members.i c.index-items-i.result c.members.all.items c.push.new.self.items
    c.in_ok-poly.poly c.members-test.true c.index-items-i.is c.in_ok-poly.ensures c.in_ok-push.ensures.items c.members.invariant
