use Rattle.gfan_lists.proofs.within.region_for.Goals as goal

pub returns-in-Err-clause-err : goal.returns-in-Err-clause-err
returns-in-Err-clause-err c = (c.requires, (c.in-Err.error, c.in-Err.ensures.err, c.of_region.ensures))
