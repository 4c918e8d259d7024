use Rattle.gf_order.proofs.ComparisonLaws.{facet_outcome}
use Rattle.gf_order.proofs.comparisons.facet.Goals as goal

pub returns : goal.returns
returns c = facet_outcome c.args.normal.now c.args.x.now c.args.y.now c.by_weight.result c.or_lex.result c.by_weight.ensures c.or_lex.ensures
