use Rattle.gf_division.proofs.ChainLaws.{replaced}
use Rattle.gf_division.proofs.dividend.Dividend.replace_next.Goals as goal

pub returns-in_ok-push : goal.returns-in_ok-push
returns-in_ok-push c = replaced c.args.self.now.above.items c.args.self.now.below.items _ _ _ c.args.t c.in-Some.ensures.items c.in_ok-push.ensures.items
