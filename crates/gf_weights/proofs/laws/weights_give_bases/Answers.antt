use Rattle.gf_weights.proofs.LawsHold.{weights_give_bases}
use Rattle.gf_weights.proofs.laws.weights_give_bases.Goals as goal

pub returns : goal.returns
returns c = weights_give_bases
