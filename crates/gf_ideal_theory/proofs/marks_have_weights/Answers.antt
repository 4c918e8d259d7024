use Rattle.gf_ideal_theory.proofs.LawsHold.{marks_have_weights as law}
use Rattle.gf_ideal_theory.proofs.marks_have_weights.Goals as goal

pub returns : goal.returns
returns c = law
