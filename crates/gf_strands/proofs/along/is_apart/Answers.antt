use Rattle.std.proofs.Common.{sym, ◌∙◌}
use Rattle.gf_strands.proofs.MultipleLaws.{apart_found}
use Rattle.gf_strands.proofs.along.is_apart.Goals as goal

pub returns-clause-yes : goal.returns-clause-yes
returns-clause-yes c = λ t. apart_found c.args.normal.now c.args.x.now c.args.y.now c.distance.result c.distance.ensures.some (sym c.is_some.ensures ∙ t)
