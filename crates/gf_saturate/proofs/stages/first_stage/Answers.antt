use Rattle.std.proofs.Common.{sym, subst}
use Rattle.gf_exponents_theory.specs.SixOrders.{MonomialOrder}
use Rattle.gf_order.specs.Comparisons.{HasEntries}
use Rattle.gf_buchberger.specs.Tasks.{IsSuited}
use Rattle.gf_buchberger.specs.Bases.{IsArrangedBasis}
use Rattle.gf_buchberger.proofs.TaskLaws.{orders_that_suit}
use Rattle.gf_saturate.proofs.stages.first_stage.Goals as goal

pub basis-requires-clause-entries : goal.basis-requires-clause-entries
basis-requires-clause-entries c = subst (HasEntries c.args.n) (sym c.deglex.ensures) tt

pub basis-requires-clause-suited : goal.basis-requires-clause-suited
basis-requires-clause-suited c = subst (λ (o : MonomialOrder). IsSuited o c.args.n c.args.set.now) (sym c.deglex.ensures)
    (orders_that_suit.deglex c.args.n c.args.set.now c.requires.variables)

pub reduced-requires-clause-basis : goal.reduced-requires-clause-basis
reduced-requires-clause-basis c = subst (λ (o : MonomialOrder). IsArrangedBasis o c.args.n c.args.set.now c.in-Ok.first) c.deglex.ensures c.in-Ok.ensures.ok
