use Rattle.gf_saturate.proofs.StageLaws.{if_memory}
use Rattle.gf_saturate.proofs.saturation.saturate.Goals as goal

pub returns-in-None-clause-complete : goal.returns-in-None-clause-complete
returns-in-None-clause-complete c = λ w. if_memory c.args.n c.args.pairs c.args.set.now c.ungraded.result w c.ungraded.ensures.err
