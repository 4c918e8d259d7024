use Rattle.gf_weights.proofs.RegionWithin.{one_variable}
use Rattle.gf_weights.proofs.laws.a_region_is_within_limits.Goals as goal

pub returns : goal.returns
returns c = one_variable
