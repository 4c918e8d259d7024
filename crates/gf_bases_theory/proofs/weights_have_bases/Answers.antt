use Rattle.gf_bases_theory.proofs.LawsHold.{weights_have_bases}
use Rattle.gf_bases_theory.proofs.weights_have_bases.Goals as goal

pub returns : goal.returns
returns c = weights_have_bases
