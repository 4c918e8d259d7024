use Rattle.gf_fans_theory.proofs.LawsHold.{facets_have_one_less}
use Rattle.gf_fans_theory.proofs.facets_have_one_less.Goals as goal

pub returns : goal.returns
returns c = facets_have_one_less
