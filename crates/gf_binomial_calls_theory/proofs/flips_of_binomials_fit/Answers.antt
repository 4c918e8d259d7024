use Rattle.gf_binomial_calls_theory.proofs.LawsHold.{flips_of_binomials_fit as law}
use Rattle.gf_binomial_calls_theory.proofs.flips_of_binomials_fit.Goals as goal

pub returns : goal.returns
returns c = law
