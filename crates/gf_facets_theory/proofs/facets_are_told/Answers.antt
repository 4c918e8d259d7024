use Rattle.gf_facets_theory.proofs.LawsHold.{facets_are_told}
use Rattle.gf_facets_theory.proofs.facets_are_told.Goals as goal

pub returns : goal.returns
returns c = facets_are_told
