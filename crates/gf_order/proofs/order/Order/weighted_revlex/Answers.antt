use Rattle.gf_exponents_theory.specs.Orders.{gains}
use Rattle.gf_exponents_theory.specs.SixOrders.{MonomialOrder}
use Rattle.gf_exponents_theory.proofs.WholeWeightLaws.{length-gains, positive-gains}
use Rattle.gf_exponents_theory.proofs.SixOrdersLaws.{term-order}
use Rattle.std.proofs.Common.{length, subst, All, pos, ◌≤ℤ◌}
use Rattle.gf_order.proofs.order.Order.weighted_revlex.Goals as goal

pub returns-in-None-clause-term_order : goal.returns-in-None-clause-term_order
returns-in-None-clause-term_order c = term-order (length c.args.weight) (MonomialOrder.weighted_revlex (gains c.args.weight))
    (positive-gains c.args.weight (subst (All (λ w. pos 1 ≤ℤ w)) c.as_slice.ensures.value c.in-None.ensures))

pub returns-in-None-clause-entries : goal.returns-in-None-clause-entries
returns-in-None-clause-entries c = length-gains c.args.weight
