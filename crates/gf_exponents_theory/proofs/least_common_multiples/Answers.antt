use Rattle.gf_exponents_theory.proofs.LawsHold.{least_common_multiples as law}
use Rattle.gf_exponents_theory.proofs.least_common_multiples.Goals as goal

pub returns : goal.returns
returns c = law
