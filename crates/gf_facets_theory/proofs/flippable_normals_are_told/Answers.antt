use Rattle.gf_facets_theory.proofs.LawsHold.{flippable_normals_are_told}
use Rattle.gf_facets_theory.proofs.flippable_normals_are_told.Goals as goal

pub returns : goal.returns
returns c = flippable_normals_are_told
