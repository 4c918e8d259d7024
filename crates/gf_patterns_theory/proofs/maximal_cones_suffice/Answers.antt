use Rattle.gf_patterns_theory.proofs.LawsHold.{maximal_cones_suffice}
use Rattle.gf_patterns_theory.proofs.maximal_cones_suffice.Goals as goal

pub returns : goal.returns
returns c = maximal_cones_suffice c.gordans_alternative.ensures
