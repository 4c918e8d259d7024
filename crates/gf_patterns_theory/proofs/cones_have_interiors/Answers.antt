use Rattle.gf_patterns_theory.proofs.LawsHold.{cones_have_interiors}
use Rattle.gf_patterns_theory.proofs.cones_have_interiors.Goals as goal

pub returns : goal.returns
returns c = cones_have_interiors c.gordans_alternative.ensures
