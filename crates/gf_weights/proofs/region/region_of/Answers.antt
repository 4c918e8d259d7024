use Rattle.gf_weights.proofs.RootLaws.{only_memory_left}
use Rattle.gf_weights.proofs.region.region_of.Goals as goal

pub returns-clause-complete : goal.returns-clause-complete
returns-clause-complete c = λ within. only_memory_left c.args.n c.args.rows.now c.worked_out.result c.worked_out.ensures.err within
