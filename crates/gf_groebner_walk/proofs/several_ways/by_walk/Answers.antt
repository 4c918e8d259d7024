use Rattle.std.proofs.Common.{sym, ◌∙◌, subst}
use Rattle.gf_exponents_theory.specs.SixOrders.{MonomialOrder}
use Rattle.gf_order.specs.Comparisons.{HasEntries}
use Rattle.gf_buchberger.specs.Tasks.{IsSuited}
use Rattle.gf_buchberger.proofs.TaskLaws.{orders_that_suit}
use Rattle.gf_groebner_walk.proofs.WalkLaws.{by_degree, start_basis, some_arrived}
use Rattle.gf_groebner_walk.proofs.several_ways.by_walk.Goals as goal

pub basis-requires-clause-entries : goal.basis-requires-clause-entries
basis-requires-clause-entries c = subst (λ (o : MonomialOrder). HasEntries c.args.n o) (sym c.deglex-deglex.ensures) tt

pub basis-requires-clause-suited : goal.basis-requires-clause-suited
basis-requires-clause-suited c = subst (λ (o : MonomialOrder). IsSuited o c.args.n c.args.set.now) (sym c.deglex-deglex.ensures)
    (orders_that_suit.deglex c.args.n c.args.set.now c.requires.variables)

pub walked-requires-clause-basis : goal.walked-requires-clause-basis
walked-requires-clause-basis c = start_basis c.args.n c.args.set.now c.in-Ok-basis.start c.requires.variables
    (by_degree c.deglex-deglex.result c.args.n c.args.set.now c.in-Ok-basis.start c.deglex-deglex.ensures c.in-Ok-basis.ensures.ok)

pub walked-requires-clause-width : goal.walked-requires-clause-width
walked-requires-clause-width c = c.in-Ok.ensures.width ∙ sym c.in-Ok-basis.ensures.ok.variables

pub returns : goal.returns
returns c = some_arrived c.args.order.now c.args.n c.args.set.now c.in-Ok.weight c.in-Ok-basis.start c.walked.result c.requires.variables c.in-Ok.ensures
    (by_degree c.deglex-deglex.result c.args.n c.args.set.now c.in-Ok-basis.start c.deglex-deglex.ensures c.in-Ok-basis.ensures.ok) c.walked.ensures
