use Rattle.std.proofs.Common.{◌+◌, ◌∙◌, ap, arith}
use Rattle.gf_small.proofs.CountsLaws.{terms-more}
use Rattle.gf_small.proofs.counts.terms_of_set.Goals as goal

pub members-preserved : goal.members-preserved
members-preserved c = terms-more c.args.items.now c.members.sum _ c.members.i c.index-items-i.result c.members-test.true c.index-items-i.is
    (omega (arith, c.term_count.type_inv, c.term_count.ensures)) (ap (λ k. c.members.sum + k) (c.from-sum.ensures ∙ c.term_count.ensures)) c.members.invariant
