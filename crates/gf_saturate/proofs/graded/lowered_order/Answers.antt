use Rattle.std.proofs.Common.{length, ap, arith}
use Rattle.gf_saturate.proofs.graded.lowered_order.Goals as goal

pub weighted_revlex-requires-clause-countable : goal.weighted_revlex-requires-clause-countable
weighted_revlex-requires-clause-countable c = omega (arith, ap length c.as_slice-long.ensures.value, c.ranges.n.fits)

pub returns-in-Ok-weighted_revlex : goal.returns-in-Ok-weighted_revlex
returns-in-Ok-weighted_revlex c = record {
  weights = c.in-Ok.weight;
  positive = c.in-Ok-weighted_revlex.ensures.accepted;
  long = omega (arith, ap length c.as_slice-long.ensures.value);
  is = c.in-Ok-weighted_revlex.ensures.order;
}
