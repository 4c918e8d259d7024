use Rattle.gf_cuts.proofs.BelowLaws.{below_more, every_more}
use Rattle.gf_cuts.proofs.thinning.indices_below.Goals as goal

pub loop-k-preserved : goal.loop-k-preserved
loop-k-preserved c = record {
  below = below_more c.loop-k.k c.loop-k.out.items _ c.in_ok-push.ensures.items c.loop-k.invariant.below;
  every = every_more c.loop-k.k c.loop-k.out.items _ c.in_ok-push.ensures.items c.loop-k.invariant.every;
}
