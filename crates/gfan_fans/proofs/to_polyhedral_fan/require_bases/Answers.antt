use Rattle.gfan_common.proofs.ReducedListLaws.{all_reduced}
use Rattle.gfan_fans.proofs.to_polyhedral_fan.require_bases.Goals as goal

pub returns-in-Ok-clause-ok : goal.returns-in-Ok-clause-ok
returns-in-Ok-clause-ok c = all_reduced c.args.sets.now c.in-Ok._bases.items c.in-Ok.ensures.ok
