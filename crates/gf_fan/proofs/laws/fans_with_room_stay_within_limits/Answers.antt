use Rattle.gf_fan.proofs.LimitLaws.{fans_with_room_stay_within_limits as holds}
use Rattle.gf_fan.proofs.laws.fans_with_room_stay_within_limits.Goals as goal

pub returns : goal.returns
returns c = holds
