use Rattle.gf_exponents_theory.specs.Orders.{gains}
use Rattle.gf_exponents_theory.specs.SixOrders.{MonomialOrder}
use Rattle.gf_exponents_theory.proofs.WholeWeightLaws.{length-gains}
use Rattle.gf_exponents_theory.proofs.SixOrdersLaws.{term-order}
use Rattle.std.proofs.Common.{length}
use Rattle.gf_order.proofs.order.Order.weighted.Goals as goal

pub returns-in-None-clause-term_order : goal.returns-in-None-clause-term_order
returns-in-None-clause-term_order c = term-order (length c.args.weight) (MonomialOrder.weighted (gains c.args.weight)) tt

pub returns-in-None-clause-entries : goal.returns-in-None-clause-entries
returns-in-None-clause-entries c = length-gains c.args.weight
