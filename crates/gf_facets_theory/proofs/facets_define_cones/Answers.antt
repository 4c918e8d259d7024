use Rattle.gf_facets_theory.proofs.LawsHold.{facets_define_cones}
use Rattle.gf_facets_theory.proofs.facets_define_cones.Goals as goal

pub returns : goal.returns
returns c = facets_define_cones
