use Rattle.std.proofs.Common.{◌∙◌, sym, subst}
use Rattle.gf_exponents_theory.specs.SixOrders.{MonomialOrder}
use Rattle.gf_order.specs.Comparisons.{HasEntries}
use Rattle.gf_buchberger.specs.Tasks.{HaveRingVariables, IsSuited}
use Rattle.gf_buchberger.proofs.TaskLaws.{orders_that_suit}
use Rattle.gf_saturate.proofs.UnitLaws.{unit_ring, unit_told}
use Rattle.gf_saturate.proofs.units.is_unit.Goals as goal

pub by_runs-requires-clause-variables : goal.by_runs-requires-clause-variables
by_runs-requires-clause-variables c =
    subst (HaveRingVariables c.args.n) (sym (c.deref.ensures.value ∙ c.in-Ok.ensures))
    (unit_ring c.args.n c.args.k c.args.set.now c.requires.inside c.requires.variables)

pub by_runs-requires-clause-entries : goal.by_runs-requires-clause-entries
by_runs-requires-clause-entries c = subst (HasEntries c.args.n) (sym c.deglex.ensures) tt

pub by_runs-requires-clause-suited : goal.by_runs-requires-clause-suited
by_runs-requires-clause-suited c =
    subst (λ (o : MonomialOrder). IsSuited o c.args.n c.deref.result.now) (sym c.deglex.ensures)
    (orders_that_suit.deglex c.args.n c.deref.result.now
    (subst (HaveRingVariables c.args.n) (sym (c.deref.ensures.value ∙ c.in-Ok.ensures))
    (unit_ring c.args.n c.args.k c.args.set.now c.requires.inside c.requires.variables)))

pub returns-in-Some : goal.returns-in-Some
returns-in-Some c = λ t.
    unit_told c.args.n c.args.k c.args.set.now _ _ c.in-Some.found c.requires.inside c.requires.variables c.deglex.ensures
    (c.deref.ensures.value ∙ c.in-Ok.ensures) c.in-Some.ensures (c.has_unit_mark.ensures.0 t)
