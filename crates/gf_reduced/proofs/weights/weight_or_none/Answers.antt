use Rattle.gf_reduced.proofs.WeightLaws.{answers_alone}
use Rattle.gf_reduced.proofs.weights.weight_or_none.Goals as goal

pub returns-clause-ok : goal.returns-clause-ok
returns-clause-ok c = answers_alone c.args.marked.now.variables c.args.marked.now.items c.weight_beside.result c.items.ensures.variables
    c.weight_beside.ensures.ok c.weight_beside.ensures.marked
