use Rattle.gf_buchberger.proofs.BasesOfRuns.{if_within}
use Rattle.gf_buchberger.proofs.wide_run.wide_basis.Goals as goal

pub by_wide_runs-requires : goal.by_wide_runs-requires
by_wide_runs-requires c = record { ring = c.requires.variables; entries = c.requires.entries; suited = c.requires.suited }

pub returns-clause-complete : goal.returns-clause-complete
returns-clause-complete c = λ w. if_within c.args.order.now c.args.n c.args.pairs c.args.set.now c.by_wide_runs.result w c.by_wide_runs.ensures.err
