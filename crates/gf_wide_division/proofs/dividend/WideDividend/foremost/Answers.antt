use Rattle.gf_wide_division.proofs.DividendLaws.{cut_there}
use Rattle.gf_wide_division.proofs.dividend.WideDividend.foremost.Goals as goal

pub returns : goal.returns
returns c = cut_there c.args.self.now.terms.items c.in_ok-i.i c.index-t.result.now c.copy.result c.in_ok-i.ensures c.index-t.ensures c.copy.ensures
