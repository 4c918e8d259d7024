use Rattle.gfan_theory.proofs.GivingWeightsLaws.{written_weights_give_bases}
use Rattle.gfan_theory.proofs.laws.written_weights_give_bases.Goals as goal

pub returns : goal.returns
returns c = written_weights_give_bases
