use Rattle.gf_binomial_bases_theory.proofs.LawsHold.{monomial_bases as law}
use Rattle.gf_binomial_bases_theory.proofs.monomial_ideals_have_monomial_bases.Goals as goal

pub returns : goal.returns
returns c = law
