use Rattle.gf_buchberger.proofs.BasesOfRuns.{if_within}
use Rattle.gf_buchberger.proofs.second_run.basis_by_second_run.Goals as goal

pub by_second_run-requires-clause-good : goal.by_second_run-requires-clause-good
by_second_run-requires-clause-good c = record { ring = c.requires.variables; entries = c.requires.entries; suited = c.requires.suited }

pub returns-clause-complete : goal.returns-clause-complete
returns-clause-complete c = λ w. if_within c.args.order.now c.args.n c.args.pairs c.args.set.now c.by_second_run.result w c.by_second_run.ensures.err
