use Rattle.gf_patterns_theory.proofs.LawsHold.{patterns_have_cones}
use Rattle.gf_patterns_theory.proofs.patterns_have_cones.Goals as goal

pub returns : goal.returns
returns c = patterns_have_cones c.gordans_alternative.ensures
