use Rattle.gf_reduced.proofs.WeightLaws.{weight_yes, weight_no}
use Rattle.gf_reduced.proofs.weights.has_weight.Goals as goal

pub returns-in-Point-clause-ok : goal.returns-in-Point-clause-ok
returns-in-Point-clause-ok c = weight_yes c.args.marked.now.variables c.args.marked.now.items _ _ c.in-Point.is c.in_ok-answer.ensures.ok

pub returns-clause-ok : goal.returns-clause-ok
returns-clause-ok c = weight_no c.args.marked.now.variables c.args.marked.now.items _ _ _ c.in-Farkas.is c.in_ok-answer.ensures.ok
