use Rattle.std.proofs.Common.{sym, subst}
use Rattle.gf_exponents_theory.specs.SixOrders.{MonomialOrder}
use Rattle.gf_order.specs.Comparisons.{HasEntries}
use Rattle.gf_buchberger.specs.Tasks.{HaveRingVariables, IsSuited}
use Rattle.gf_buchberger.proofs.TaskLaws.{orders_that_suit}
use Rattle.gf_saturate.proofs.StepLaws.{arranged-as}
use Rattle.gf_saturate.proofs.GradedLaws.{graded_saturation}
use Rattle.gf_saturate.proofs.chain.by_chain.Goals as goal

pub by_runs-requires-clause-variables : goal.by_runs-requires-clause-variables
by_runs-requires-clause-variables c = subst (HaveRingVariables c.args.n) (sym c.as_slice-list.ensures.value) c.in-Some.ensures.ring

pub by_runs-requires-clause-entries : goal.by_runs-requires-clause-entries
by_runs-requires-clause-entries c = subst (HasEntries c.args.n) (sym c.deglex.ensures) tt

pub by_runs-requires-clause-suited : goal.by_runs-requires-clause-suited
by_runs-requires-clause-suited c =
    subst (λ (o : MonomialOrder). IsSuited o c.args.n c.as_slice-list.result.now) (sym c.deglex.ensures)
    (orders_that_suit.deglex c.args.n c.as_slice-list.result.now
    (subst (HaveRingVariables c.args.n) (sym c.as_slice-list.ensures.value) c.in-Some.ensures.ring))

pub returns : goal.returns
returns c =
    graded_saturation c.args.n c.args.set.now c.in-Some.polys.items c.in-Some-by_runs.found c.in-Some.ensures
    (arranged-as _ _ c.args.n _ _ c.in-Some-by_runs.found c.deglex.ensures c.as_slice-list.ensures.value c.in-Some-by_runs.ensures)
