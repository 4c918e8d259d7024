use Rattle.gf_weights.proofs.LawsHold.{witnesses_are_inside}
use Rattle.gf_weights.proofs.laws.witnesses_are_inside.Goals as goal

pub returns : goal.returns
returns c = witnesses_are_inside
