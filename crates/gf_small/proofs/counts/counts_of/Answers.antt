use Rattle.std.proofs.Common.{refl}
use Rattle.gf_small.proofs.CountsLaws.{counts-more}
use Rattle.gf_small.proofs.counts.counts_of.Goals as goal

pub sets-preserved : goal.sets-preserved
sets-preserved c = counts-more c.args.sets.now c.sets.counts c.with_set-counts.result c.sets.i c.index-sets-i.result _ c.sets-test.true c.index-sets-i.is refl
    c.with_set-counts.ensures.max_degree c.with_set-counts.ensures.min_degree c.with_set-counts.ensures.max_polynomials c.with_set-counts.ensures.max_terms
    c.sets.invariant
