use Rattle.gf_ideal_theory.proofs.LawsOfBasesHold.{normal_forms_are_unique as law}
use Rattle.gf_ideal_theory.proofs.normal_forms_are_unique.Goals as goal

pub returns : goal.returns
returns c = law
