use Rattle.gf_facets_theory.proofs.LawsHold.{normals_define_cones}
use Rattle.gf_facets_theory.proofs.normals_define_cones.Goals as goal

pub returns : goal.returns
returns c = normals_define_cones
