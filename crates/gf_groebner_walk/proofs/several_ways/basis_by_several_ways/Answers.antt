use Rattle.gf_buchberger.proofs.BasesOfRuns.{if_within}
use Rattle.gf_groebner_walk.proofs.several_ways.basis_by_several_ways.Goals as goal

pub returns-clause-complete : goal.returns-clause-complete
returns-clause-complete c = λ w. if_within c.args.order.now c.args.n c.args.pairs c.args.set.now c.by_ways.result w c.by_ways.ensures.err
