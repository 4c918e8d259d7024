use Rattle.std.proofs.Common.{sym, subst}
use Rattle.gf_exponents_theory.specs.SixOrders.{MonomialOrder}
use Rattle.gf_order.specs.Comparisons.{HasEntries}
use Rattle.gf_buchberger.specs.Tasks.{HaveRingVariables, IsSuited}
use Rattle.gf_buchberger.proofs.TaskLaws.{orders_that_suit}
use Rattle.gf_saturate.proofs.StepLaws.{arranged-as}
use Rattle.gf_saturate.proofs.GradedLaws.{graded_saturation}
use Rattle.gf_saturate.proofs.graded.by_division.Goals as goal

pub basis-requires-clause-variables : goal.basis-requires-clause-variables
basis-requires-clause-variables c = subst (HaveRingVariables c.args.n) (sym c.deref.ensures.value) c.in-Some-divided.ensures.ring

pub basis-requires-clause-entries : goal.basis-requires-clause-entries
basis-requires-clause-entries c = subst (HasEntries c.args.n) (sym c.deglex.ensures) tt

pub basis-requires-clause-suited : goal.basis-requires-clause-suited
basis-requires-clause-suited c =
    subst (λ (o : MonomialOrder). IsSuited o c.args.n c.deref.result.now) (sym c.deglex.ensures)
    (orders_that_suit.deglex c.args.n c.deref.result.now
    (subst (HaveRingVariables c.args.n) (sym c.deref.ensures.value) c.in-Some-divided.ensures.ring))

pub returns-in-Ok : goal.returns-in-Ok
returns-in-Ok c =
    graded_saturation c.args.n c.args.set.now c.in-Some-divided.polys.items c.in-Ok.saturation c.in-Some-divided.ensures
    (arranged-as _ _ c.args.n _ _ c.in-Ok.saturation c.deglex.ensures c.deref.ensures.value c.in-Ok.ensures.ok)
