use Rattle.std.proofs.Common.{◌∙◌, ap, max}
use Rattle.gf_poly.specs.Marking.{MarkedPolynomial}
use Rattle.gf_small.specs.Degrees.{total_degree}
use Rattle.gf_small.proofs.CountsLaws.{greatest-more, ord_max-is}
use Rattle.gf_small.proofs.counts.degree_of_set.Goals as goal

pub members-preserved : goal.members-preserved
members-preserved c = greatest-more (λ (b : MarkedPolynomial). total_degree b.poly) c.args.items.now c.members.i c.index-items-i.result c.members.most
    c.max-most.result c.members-test.true c.index-items-i.is
    (c.max-most.ensures ∙ ord_max-is c.members.most c.total_degree.result ∙ ap (λ k. max c.members.most k)
    (c.total_degree.ensures ∙ ap total_degree (c.terms.ensures.value ∙ c.poly.ensures))) c.members.invariant
