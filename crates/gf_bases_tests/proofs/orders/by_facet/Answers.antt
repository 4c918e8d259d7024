use Rattle.std.proofs.Common.{sym, subst}
use Rattle.gf_exponents_theory.specs.SixOrders.{MonomialOrder}
use Rattle.gf_buchberger.specs.Tasks.{IsSuited}
use Rattle.gf_buchberger.proofs.TaskLaws.{orders_that_suit}
use Rattle.gf_bases_tests.proofs.orders.by_facet.Goals as goal

pub returns-clause-suited : goal.returns-clause-suited
returns-clause-suited c = λ fs v. subst (λ (o : MonomialOrder). IsSuited o c.args._n fs) (sym c.facet.ensures.order)
    (orders_that_suit.facet_downward c.args._n c.args.normal fs v c.requires.downward)
