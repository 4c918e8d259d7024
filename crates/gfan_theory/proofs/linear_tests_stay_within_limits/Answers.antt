use Rattle.gfan_theory.proofs.TestLimits.{linear_tests}
use Rattle.gfan_theory.proofs.linear_tests_stay_within_limits.Goals as goal

pub returns : goal.returns
returns c = linear_tests
