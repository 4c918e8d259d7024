use Rattle.gf_levels_theory.proofs.LawsHold.{levels_are_of_patterns}
use Rattle.gf_levels_theory.proofs.levels_are_of_patterns.Goals as goal

pub returns : goal.returns
returns c = levels_are_of_patterns c.gordans_alternative.ensures
