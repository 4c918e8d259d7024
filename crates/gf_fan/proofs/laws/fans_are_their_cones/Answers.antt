use Rattle.gf_fan.proofs.SameFans.{fans_are_their_cones as holds}
use Rattle.gf_fan.proofs.laws.fans_are_their_cones.Goals as goal

pub returns : goal.returns
returns c = holds
