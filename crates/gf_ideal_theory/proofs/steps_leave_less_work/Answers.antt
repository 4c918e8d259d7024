use Rattle.gf_ideal_theory.proofs.LawsHold.{steps_leave_less_work as law}
use Rattle.gf_ideal_theory.proofs.steps_leave_less_work.Goals as goal

pub returns : goal.returns
returns c = law
