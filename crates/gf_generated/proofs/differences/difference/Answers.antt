use Rattle.std.proofs.Common.{sym, subst, ap₂, ◌∙◌}
use Rattle.gf_poly.specs.Polynomial.{IsDescending}
use Rattle.gf_generated.specs.Generated.{in_order}
use Rattle.gf_generated.proofs.GeneratedLaws.{in_order-descends}
use Rattle.gf_generated.proofs.differences.difference.Goals as goal

pub from_descending-requires : goal.from_descending-requires
from_descending-requires c =
    subst IsDescending
    (sym (c.in_ok-terms.ensures
    ∙ ap₂ (λ a b. in_order c.compare-order.result (record { coef = a; mono = c.new-x.result }) (record { coef = b; mono = c.new-y.result }))
    c.one.ensures c.minus_one.ensures))
    (in_order-descends c.compare-order.result c.new-x.result c.new-y.result (sym c.compare-order.ensures))
