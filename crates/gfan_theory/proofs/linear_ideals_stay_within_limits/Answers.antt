use Rattle.gfan_theory.proofs.LinearRuns.{linear_runs, linear_ruled_runs}
use Rattle.gfan_theory.proofs.LinearLimits.{linear_ideals}
use Rattle.gfan_theory.proofs.linear_ideals_stay_within_limits.Goals as goal

pub returns-clause-runs : goal.returns-clause-runs
returns-clause-runs c = linear_runs

pub returns-clause-ideals : goal.returns-clause-ideals
returns-clause-ideals c = linear_ideals

pub returns-clause-ruled : goal.returns-clause-ruled
returns-clause-ruled c = linear_ruled_runs
