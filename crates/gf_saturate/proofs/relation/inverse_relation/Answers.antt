use Rattle.std.proofs.Common.{◌+◌, sym, subst, ap, ◌∙◌, length, replicate}
use Rattle.gf_frac.specs.Fraction.{neg_ℚ}
use Rattle.gf_poly.specs.Polynomial.{IsDescending}
use Rattle.gf_saturate.proofs.WideningLaws.{relation-descending, relation-made}
use Rattle.gf_saturate.proofs.relation.inverse_relation.Goals as goal

pub from_descending-requires : goal.from_descending-requires
from_descending-requires c = subst IsDescending (sym (relation-made c.args.by.now _ _ _ _ _ _ _ c.in_ok-terms.ensures.items c.in_ok-push.ensures.items
    c.in_ok-push-2.ensures.items c.constants-one.ensures.one c.filled.ensures (c.neg.ensures ∙ ap neg_ℚ c.constants-one.ensures.one)
    (c.one.ensures ∙ ap (λ x. replicate (length x + 1) 0) c.exponents-n.ensures.value))) (relation-descending c.args.by.now)
