use Rattle.std.proofs.Common.{refl, length, ◌∙◌}
use Rattle.gf_division.proofs.TailLaws.{head_at}
use Rattle.gf_strands.proofs.AlongLaws.{width_at}
use Rattle.gf_lifts.proofs.tops.index_at.Goals as goal

pub is_same-requires : goal.is_same-requires
is_same-requires c = width_at (length c.args.x.now) c.args.terms.now c.args.terms.now c.index-terms-k.result c.terms.k c.requires refl c.terms-test.true
    c.index-terms-k.is

pub returns-then-is_same-clause-head : goal.returns-then-is_same-clause-head
returns-then-is_same-clause-head c = head_at c.args.terms.now c.terms.k c.index-terms-k.result c.terms-test.true c.index-terms-k.is ∙
    c.is_same.ensures.0 c.if-is_same.true
