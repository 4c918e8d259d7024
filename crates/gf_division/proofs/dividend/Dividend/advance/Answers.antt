use Rattle.gf_division.proofs.DividendLaws.{moved}
use Rattle.gf_division.proofs.dividend.Dividend.advance.Goals as goal

pub returns-in_ok-push : goal.returns-in_ok-push
returns-in_ok-push c = moved _ _ _ _ c.in-Some.t c.in-Some.ensures.items c.in_ok-push.ensures.items
