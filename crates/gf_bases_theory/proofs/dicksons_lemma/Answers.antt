use Rattle.gf_bases_theory.proofs.LawsHold.{dicksons_lemma}
use Rattle.gf_bases_theory.proofs.dicksons_lemma.Goals as goal

pub returns : goal.returns
returns c = dicksons_lemma
