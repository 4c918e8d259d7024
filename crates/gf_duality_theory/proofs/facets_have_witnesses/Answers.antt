use Rattle.gf_duality_theory.proofs.LawsHold.{facets_have_witnesses}
use Rattle.gf_duality_theory.proofs.facets_have_witnesses.Goals as goal

pub returns : goal.returns
returns c = facets_have_witnesses
