use Rattle.gf_binomial_bases_theory.proofs.LawsHold.{initial_forms_of_binomials as law}
use Rattle.gf_binomial_bases_theory.proofs.initial_forms_are_of_binomials.Goals as goal

pub returns : goal.returns
returns c = law
