use Rattle.gf_binomials_theory.proofs.LawsHold.{binomials_stay_binomials as law}
use Rattle.gf_binomials_theory.proofs.binomials_stay_binomials.Goals as goal

pub returns : goal.returns
returns c = law
