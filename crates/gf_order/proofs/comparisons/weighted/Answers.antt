use Rattle.gf_order.proofs.ComparisonLaws.{weighted_outcome}
use Rattle.gf_order.proofs.comparisons.weighted.Goals as goal

pub returns : goal.returns
returns c = weighted_outcome c.args.weight.now c.args.x.now c.args.y.now c.by_weight.result c.or_lex.result c.requires.natural c.by_weight.ensures
    c.or_lex.ensures
