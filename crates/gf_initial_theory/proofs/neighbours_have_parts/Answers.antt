use Rattle.gf_initial_theory.proofs.LawsHold.{neighbours_have_parts}
use Rattle.gf_initial_theory.proofs.neighbours_have_parts.Goals as goal

pub returns : goal.returns
returns c = neighbours_have_parts
