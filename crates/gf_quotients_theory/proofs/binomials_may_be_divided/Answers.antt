use Rattle.gf_quotients_theory.proofs.LawsHold.{binomials_may_be_divided}
use Rattle.gf_quotients_theory.proofs.binomials_may_be_divided.Goals as goal

pub returns : goal.returns
returns c = binomials_may_be_divided
