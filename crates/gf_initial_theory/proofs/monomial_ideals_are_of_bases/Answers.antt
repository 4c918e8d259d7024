use Rattle.gf_initial_theory.proofs.LawsHold.{monomial_ideals_are_of_bases}
use Rattle.gf_initial_theory.proofs.monomial_ideals_are_of_bases.Goals as goal

pub returns : goal.returns
returns c = monomial_ideals_are_of_bases
