use Rattle.gf_rays.proofs.RoomLaws as room
use Rattle.gf_rays.proofs.laws.further_rows_stay_within_limits.Goals as goal

pub returns-clause-systems : goal.returns-clause-systems
returns-clause-systems c = room.further_rows_stay_within_limits

pub returns-clause-small : goal.returns-clause-small
returns-clause-small c = room.cones_have_room
