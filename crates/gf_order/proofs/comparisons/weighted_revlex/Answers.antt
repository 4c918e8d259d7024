use Rattle.gf_order.proofs.ComparisonLaws.{weighted_revlex_outcome}
use Rattle.gf_order.proofs.comparisons.weighted_revlex.Goals as goal

pub returns : goal.returns
returns c = weighted_revlex_outcome c.args.weight.now c.args.x.now c.args.y.now c.by_weight.result c.or_revlex.result c.requires.natural c.by_weight.ensures
    c.or_revlex.ensures
