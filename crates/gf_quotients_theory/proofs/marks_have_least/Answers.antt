use Rattle.gf_quotients_theory.proofs.LawsHold.{marks_have_least}
use Rattle.gf_quotients_theory.proofs.marks_have_least.Goals as goal

pub returns : goal.returns
returns c = marks_have_least
