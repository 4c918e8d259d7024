use Rattle.gf_cone.proofs.RegionLaws.{all_ones}
use Rattle.gf_cone.proofs.region.are_ones.Goals as goal

pub returns : goal.returns
returns c = λ t. all_ones c.args.xs.now c.entries.i c.entries-test.false c.entries.invariant
