use Rattle.gf_rays.proofs.RoomLaws as room
use Rattle.gf_rays.proofs.laws.systems_with_room_stay_within_limits.Goals as goal

pub returns-clause-systems : goal.returns-clause-systems
returns-clause-systems c = room.systems_with_room_stay_within_limits

pub returns-clause-small : goal.returns-clause-small
returns-clause-small c = room.small_systems_have_room
