use Rattle.gf_whole_division.proofs.ReductionLaws.{passed}
use Rattle.gf_whole_division.proofs.dividend.WholeDividend.pass.Goals as goal

pub returns-in_ok-push-in-Some : goal.returns-in_ok-push-in-Some
returns-in_ok-push-in-Some c =
    passed c.args.self.now.done.items c.args.self.now.rest.items c.pop.new.self.items c.push.new.self.items c.in-Some.t c.in-Some.ensures.items
    c.in_ok-push-in-Some.ensures.items
