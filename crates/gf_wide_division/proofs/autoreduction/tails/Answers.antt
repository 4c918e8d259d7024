use Rattle.gf_division.proofs.AutoreductionLaws.{tails_more}
use Rattle.gf_wide_division.proofs.autoreduction.tails.Goals as goal

pub members-preserved : goal.members-preserved
members-preserved c = tails_more c.args.members.now c.members.done.items c.push.new.self.items c.index-members-i.result c.in_ok-member.member c.members.i
    c.members-test.true c.index-members-i.is c.in_ok-push.ensures.items c.in_ok-member.ensures.tail c.in_ok-member.ensures.form c.members.invariant
