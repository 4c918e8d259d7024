use Rattle.gf_initial_theory.proofs.LawsHold.{neighbours_exist}
use Rattle.gf_initial_theory.proofs.neighbours_exist.Goals as goal

pub returns : goal.returns
returns c = neighbours_exist
