use Rattle.std.proofs.Common.{sym, subst, refl}
use Rattle.gf_exponents_theory.specs.SixOrders.{MonomialOrder}
use Rattle.gf_order.specs.Comparisons.{HasEntries}
use Rattle.gf_buchberger.specs.Tasks.{IsSuited}
use Rattle.gf_buchberger.proofs.TaskLaws.{orders_that_suit}
use Rattle.gf_saturate.proofs.StepLaws.{arranged-as}
use Rattle.gf_saturate.proofs.UnitLaws.{kept_saturation}
use Rattle.gf_saturate.proofs.units.by_units.Goals as goal

pub by_runs-requires-clause-entries : goal.by_runs-requires-clause-entries
by_runs-requires-clause-entries c = subst (HasEntries c.args.n) (sym c.deglex.ensures) tt

pub by_runs-requires-clause-suited : goal.by_runs-requires-clause-suited
by_runs-requires-clause-suited c =
    subst (λ (o : MonomialOrder). IsSuited o c.args.n c.args.set.now) (sym c.deglex.ensures)
    (orders_that_suit.deglex c.args.n c.args.set.now c.requires.variables)

pub returns : goal.returns
returns c =
    kept_saturation c.args.n c.args.set.now c.in-Some.found c.requires.variables (c.if-not-are_units.ensures refl)
    (arranged-as _ _ c.args.n _ _ c.in-Some.found c.deglex.ensures refl c.in-Some.ensures)
