use Rattle.gf_binomial_calls_theory.proofs.LawsHold.{limits_are_met as law}
use Rattle.gf_binomial_calls_theory.proofs.limits_are_met.Goals as goal

pub returns : goal.returns
returns c = law
