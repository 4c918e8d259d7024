use Rattle.std.proofs.Common.{sym, subst}
use Rattle.gf_exponents_theory.specs.SixOrders.{MonomialOrder}
use Rattle.gf_order.specs.Comparisons.{HasEntries}
use Rattle.gf_buchberger.specs.Bases.{IsArrangedBasis}
use Rattle.gf_buchberger.specs.Tasks.{IsSuited}
use Rattle.gf_buchberger.proofs.TaskLaws.{orders_that_suit}
use Rattle.gf_flip.proofs.ReachedLaws.{reached_first}
use Rattle.gf_tree.proofs.IdealLaws.{start_of_ideal}
use Rattle.gf_bases_tests.proofs.sets.start.Goals as goal

pub basis-requires-clause-suited : goal.basis-requires-clause-suited
basis-requires-clause-suited c = subst (λ (o : MonomialOrder). IsSuited o c.args.n c.args.list.now) (sym c.deglex-order.ensures)
    (orders_that_suit.deglex c.args.n c.args.list.now c.requires)

pub basis-requires-clause-entries : goal.basis-requires-clause-entries
basis-requires-clause-entries c = subst (λ (o : MonomialOrder). HasEntries c.args.n o) (sym c.deglex-order.ensures) tt

pub returns-in-Ok-clause-reached : goal.returns-in-Ok-clause-reached
returns-in-Ok-clause-reached c = reached_first c.args.n c.args.list.now c.in-Ok.set c.requires
    (subst (λ (o : MonomialOrder). IsArrangedBasis o c.args.n c.args.list.now c.in-Ok.set) c.deglex-order.ensures c.in-Ok.ensures.ok)

pub returns-in-Ok-clause-node : goal.returns-in-Ok-clause-node
returns-in-Ok-clause-node c = (start_of_ideal c.args.n c.args.list.now c.in-Ok.set c.requires
    (subst (λ (o : MonomialOrder). IsArrangedBasis o c.args.n c.args.list.now c.in-Ok.set) c.deglex-order.ensures c.in-Ok.ensures.ok)).1
