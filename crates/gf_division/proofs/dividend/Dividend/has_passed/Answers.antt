use Rattle.std.proofs.Common.{sym, arith}
use Rattle.gf_division.proofs.DividendLaws.{over_last}
use Rattle.gf_division.proofs.dividend.Dividend.has_passed.Goals as goal

pub returns-in-Greater-clause-no : goal.returns-in-Greater-clause-no
returns-in-Greater-clause-no c e d = over_last c.args.x.now c.args.self.now.above.items c.len-n.result c.index.result.now (omega arith)
    c.if-n-eq0.false c.index.ensures (sym c.in-Greater.ensures) d
