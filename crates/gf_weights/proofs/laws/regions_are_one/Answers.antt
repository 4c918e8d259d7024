use Rattle.gf_weights.proofs.RegionLaws.{regions_are_one}
use Rattle.gf_weights.proofs.laws.regions_are_one.Goals as goal

pub returns : goal.returns
returns c = regions_are_one
