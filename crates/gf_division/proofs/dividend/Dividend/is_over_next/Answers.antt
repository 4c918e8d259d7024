use Rattle.std.proofs.Common.{arith}
use Rattle.gf_division.proofs.ChainLaws.{over_rest, over_none}
use Rattle.gf_division.proofs.dividend.Dividend.is_over_next.Goals as goal

pub returns-then-n-eq1 : goal.returns-then-n-eq1
returns-then-n-eq1 c = λ t d. over_none c.args.x.now c.args.self.now.below.items (omega arith)

pub returns : goal.returns
returns c = λ t d. over_rest c.args.x.now c.args.self.now.below.items c.len-n.result c.index.result.now (omega arith) (omega arith) c.index.ensures
    (c.is_greater.ensures t) d
