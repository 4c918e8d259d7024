use Rattle.gf_initial_theory.proofs.LawsHold.{neighbours_are_unique}
use Rattle.gf_initial_theory.proofs.neighbours_are_unique.Goals as goal

pub returns : goal.returns
returns c = neighbours_are_unique
