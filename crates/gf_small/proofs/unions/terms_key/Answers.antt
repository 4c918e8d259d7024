use Rattle.gf_small.proofs.KeyLaws.{terms_more}
use Rattle.gf_small.proofs.unions.terms_key.Goals as goal

pub terms-preserved : goal.terms-preserved
terms-preserved c = (
  terms_more c.terms.key.items _ c.args.f.now c.terms.i c.index-f-i.result c.terms-test.true c.index-f-i.is c.terms.invariant.0 c.in_ok-push_term.ensures.items,
  c.in_ok-push_term.ensures.range,
)
