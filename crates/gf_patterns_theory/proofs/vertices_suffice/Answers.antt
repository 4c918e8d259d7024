use Rattle.gf_patterns_theory.proofs.LawsHold.{vertices_suffice}
use Rattle.gf_patterns_theory.proofs.vertices_suffice.Goals as goal

pub returns : goal.returns
returns c = vertices_suffice c.gordans_alternative.ensures
