use Rattle.gf_ideal_theory.proofs.LawsHold.{ideals_are_closed as law}
use Rattle.gf_ideal_theory.proofs.ideals_are_closed.Goals as goal

pub returns : goal.returns
returns c = law
