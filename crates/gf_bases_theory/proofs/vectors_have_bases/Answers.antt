use Rattle.gf_bases_theory.proofs.LawsHold.{vectors_have_bases}
use Rattle.gf_bases_theory.proofs.vectors_have_bases.Goals as goal

pub returns : goal.returns
returns c = vectors_have_bases
