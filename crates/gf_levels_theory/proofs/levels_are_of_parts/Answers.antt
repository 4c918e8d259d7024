use Rattle.gf_levels_theory.proofs.LawsHold.{levels_are_of_parts}
use Rattle.gf_levels_theory.proofs.levels_are_of_parts.Goals as goal

pub returns : goal.returns
returns c = levels_are_of_parts
