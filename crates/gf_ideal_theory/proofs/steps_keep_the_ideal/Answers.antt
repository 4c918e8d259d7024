use Rattle.gf_ideal_theory.proofs.LawsHold.{steps_keep_the_ideal as law}
use Rattle.gf_ideal_theory.proofs.steps_keep_the_ideal.Goals as goal

pub returns : goal.returns
returns c = law
