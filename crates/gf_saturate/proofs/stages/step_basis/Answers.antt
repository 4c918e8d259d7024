use Rattle.std.proofs.Common.{◌≡◌, ◌+◌, ◌∙◌, length, sym, subst, ap}
use Rattle.std.proofs.lemmas.Result.{IfOk-weaker}
use Rattle.gf_exponents_theory.specs.Exponents.{Exponents}
use Rattle.gf_exponents_theory.specs.SixOrders.{MonomialOrder}
use Rattle.gf_order.specs.Comparisons.{HasEntries}
use Rattle.gf_buchberger.specs.Tasks.{HaveRingVariables, IsSuited}
use Rattle.gf_buchberger.proofs.TaskLaws.{orders_that_suit}
use Rattle.gf_buchberger.specs.Bases.{IsArrangedBasis}
use Rattle.gf_saturation_theory.specs.Saturations.{last_weight}
use Rattle.gf_saturate.specs.Widening.{extended_list, variable_at}
use Rattle.gf_saturate.specs.Saturating.{step_order, step_list}
use Rattle.gf_saturate.proofs.WideningLaws.{length-variable}
use Rattle.gf_saturate.proofs.StepLaws.{extended-ring, length-last, arranged-as, if_told}
use Rattle.gf_saturate.proofs.stages.step_basis.Goals as goal

pub extended-requires-clause-by : goal.extended-requires-clause-by
extended-requires-clause-by c = ap length c.variable-by.ensures ∙ length-variable c.args.n c.args.k c.requires.inside

pub basis-requires-clause-variables : goal.basis-requires-clause-variables
basis-requires-clause-variables c =
    let is : c.deref.result.now ≡ step_list c.args.n c.args.k c.args.set.now =
    c.deref.ensures.value ∙ c.in-Ok.ensures ∙ ap (λ (u : Exponents). extended_list u c.args.set.now) c.variable-by.ensures in
    subst (HaveRingVariables (c.args.n + 1)) (sym is) (extended-ring c.args.n (variable_at c.args.n c.args.k) c.args.set.now
    (length-variable c.args.n c.args.k c.requires.inside) c.requires.variables)

pub basis-requires-clause-entries : goal.basis-requires-clause-entries
basis-requires-clause-entries c = subst (HasEntries (c.args.n + 1)) (sym c.in-Ok-last_first.ensures) (length-last c.args.n)

pub basis-requires-clause-suited : goal.basis-requires-clause-suited
basis-requires-clause-suited c =
    let is : c.deref.result.now ≡ step_list c.args.n c.args.k c.args.set.now =
    c.deref.ensures.value ∙ c.in-Ok.ensures ∙ ap (λ (u : Exponents). extended_list u c.args.set.now) c.variable-by.ensures in
    let v : HaveRingVariables (c.args.n + 1) c.deref.result.now = subst (HaveRingVariables (c.args.n + 1)) (sym is)
    (extended-ring c.args.n (variable_at c.args.n c.args.k) c.args.set.now (length-variable c.args.n c.args.k c.requires.inside) c.requires.variables) in
    subst (λ (o : MonomialOrder). IsSuited o (c.args.n + 1) c.deref.result.now) (sym c.in-Ok-last_first.ensures)
    (orders_that_suit.weighted (c.args.n + 1) (last_weight c.args.n) c.deref.result.now v)

pub returns-clause-ok : goal.returns-clause-ok
returns-clause-ok c =
    let is : c.deref.result.now ≡ step_list c.args.n c.args.k c.args.set.now =
    c.deref.ensures.value ∙ c.in-Ok.ensures ∙ ap (λ (u : Exponents). extended_list u c.args.set.now) c.variable-by.ensures in
    IfOk-weaker c.basis.result _ (IsArrangedBasis (step_order c.args.n) (c.args.n + 1) (step_list c.args.n c.args.k c.args.set.now))
    (λ s b. arranged-as _ _ (c.args.n + 1) _ _ s c.in-Ok-last_first.ensures is b) c.basis.ensures.ok

pub returns-clause-err : goal.returns-clause-err
returns-clause-err c =
    let is : c.deref.result.now ≡ step_list c.args.n c.args.k c.args.set.now =
    c.deref.ensures.value ∙ c.in-Ok.ensures ∙ ap (λ (u : Exponents). extended_list u c.args.set.now) c.variable-by.ensures in
    if_told _ (step_order c.args.n) (c.args.n + 1) c.args.pairs _ (step_list c.args.n c.args.k c.args.set.now) c.basis.result c.in-Ok-last_first.ensures is
    c.basis.ensures.err c.basis.ensures.complete_by_rule
