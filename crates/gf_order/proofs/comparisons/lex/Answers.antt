use Rattle.std.proofs.Common.{sym, subst}
use Rattle.std.specs.declared.cmp.Ordering.{Ordering}
use Rattle.gf_exponents_theory.specs.SixOrders.{MonomialOrder}
use Rattle.gf_exponents_theory.proofs.OrderLaws.{lex-compares}
use Rattle.gf_order.specs.Comparisons.{IsOutcome}
use Rattle.gf_order.proofs.comparisons.lex.Goals as goal

pub returns : goal.returns
returns c = subst (λ (o : Ordering). IsOutcome MonomialOrder.lex c.args.x.now c.args.y.now o) (sym c.cmp.ensures)
    (lex-compares c.args.x.now c.args.y.now c.requires)
