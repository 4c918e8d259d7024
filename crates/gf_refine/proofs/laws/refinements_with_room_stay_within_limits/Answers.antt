use Rattle.gf_refine.proofs.LimitLaws.{refinements_with_room_stay_within_limits as holds}
use Rattle.gf_refine.proofs.laws.refinements_with_room_stay_within_limits.Goals as goal

pub returns : goal.returns
returns c = holds
