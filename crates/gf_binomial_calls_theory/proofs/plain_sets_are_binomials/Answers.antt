use Rattle.gf_binomial_calls_theory.proofs.LawsHold.{plain_sets_are_binomials as law}
use Rattle.gf_binomial_calls_theory.proofs.plain_sets_are_binomials.Goals as goal

pub returns : goal.returns
returns c = law
