use Rattle.gf_ideal_theory.proofs.LawsOfBasesHold.{runs_end_with_a_basis as law}
use Rattle.gf_ideal_theory.proofs.runs_end_with_a_basis.Goals as goal

pub returns : goal.returns
returns c = law
