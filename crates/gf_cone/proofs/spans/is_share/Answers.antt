use Rattle.std.proofs.Common.{arith, inr}
use Rattle.std.proofs.lemmas.Int.{ints}
use Rattle.gf_cone.proofs.SpanLaws.{index_in_all}
use Rattle.gf_cone.proofs.spans.is_share.Goals as goal

pub returns : goal.returns
returns c = λ t. record {
  inside = index_in_all c.args.cone.now c.kept-kept.result.now c.args.share.index c.kept-kept.ensures.value
      (inr (omega (arith, c.if-share-kept-2.false, c.variables.ensures)));
  other = c.if-share-index.false;
  least = omega (arith, ints, c.if-share-lt0.false);
}
