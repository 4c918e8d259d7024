use Rattle.gf_ideal_theory.proofs.LawsHold.{generators_may_be_exchanged as law}
use Rattle.gf_ideal_theory.proofs.generators_may_be_exchanged.Goals as goal

pub returns : goal.returns
returns c = law
