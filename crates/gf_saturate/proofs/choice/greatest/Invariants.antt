use Rattle.std.proofs.Common.{◌<◌}
use Rattle.gf_saturate.proofs.choice.greatest.Given as goal

abbrev pub invariant-indices : goal.invariant-indices
invariant-indices l = l.best < l.n
