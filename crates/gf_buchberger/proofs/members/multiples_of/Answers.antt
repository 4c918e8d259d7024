use Rattle.std.proofs.Common.{◌∙◌}
use Rattle.std.proofs.lemmas.List.{take_all}
use Rattle.gf_buchberger.proofs.WholeLaws.{multiples_more}
use Rattle.gf_buchberger.proofs.members.multiples_of.Goals as goal

pub members-preserved : goal.members-preserved
members-preserved c =
    multiples_more c.push.new.self.items c.members.members.items c.args.marked.now c.members.i c.index-marked-i.result c.in_ok-member.member
    c.in_ok-push.ensures.items c.in_ok-member.ensures c.members-test.true c.index-marked-i.is c.members.invariant

pub returns : goal.returns
returns c = c.members.invariant ∙ take_all c.members.i c.args.marked.now c.members-test.false
