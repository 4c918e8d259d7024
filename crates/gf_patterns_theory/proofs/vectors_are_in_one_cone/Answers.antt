use Rattle.gf_patterns_theory.proofs.LawsHold.{vectors_are_in_one_cone}
use Rattle.gf_patterns_theory.proofs.vectors_are_in_one_cone.Goals as goal

pub returns : goal.returns
returns c = vectors_are_in_one_cone
