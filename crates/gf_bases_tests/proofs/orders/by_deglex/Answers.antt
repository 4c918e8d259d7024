use Rattle.std.proofs.Common.{sym, subst}
use Rattle.gf_exponents_theory.specs.SixOrders.{MonomialOrder}
use Rattle.gf_order.specs.Comparisons.{HasEntries}
use Rattle.gf_buchberger.specs.Tasks.{IsSuited}
use Rattle.gf_buchberger.proofs.TaskLaws.{orders_that_suit}
use Rattle.gf_bases_tests.proofs.orders.by_deglex.Goals as goal

pub returns-clause-entries : goal.returns-clause-entries
returns-clause-entries c = subst (λ (o : MonomialOrder). HasEntries c.args._n o) (sym c.deglex.ensures) tt

pub returns-clause-suited : goal.returns-clause-suited
returns-clause-suited c = λ fs v. subst (λ (o : MonomialOrder). IsSuited o c.args._n fs) (sym c.deglex.ensures) (orders_that_suit.deglex c.args._n fs v)
