use Rattle.gf_binomials_theory.proofs.LawsHold.{operations_on_binomials_fit as law}
use Rattle.gf_binomials_theory.proofs.operations_on_binomials_fit.Goals as goal

pub returns : goal.returns
returns c = law
