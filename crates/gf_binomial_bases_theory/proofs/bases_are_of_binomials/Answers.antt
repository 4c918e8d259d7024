use Rattle.gf_binomial_bases_theory.proofs.LawsHold.{bases_of_binomials as law}
use Rattle.gf_binomial_bases_theory.proofs.bases_are_of_binomials.Goals as goal

pub returns : goal.returns
returns c = law
