use Rattle.std.proofs.Common.{refl, sym, ap, subst, ◌∙◌}
use Rattle.std.proofs.lemmas.Result.{err_from_is_err_and}
use Rattle.gf_exponents_theory.specs.SixOrders.{MonomialOrder}
use Rattle.gf_generated.specs.Generated.{generated_set}
use Rattle.gf_buchberger.specs.Tasks.{HaveRingVariables, IsSuited}
use Rattle.gf_buchberger.proofs.TaskLaws.{orders_that_suit}
use Rattle.gfan_lists.proofs.FirstLaws.{first_told, first_memory}
use Rattle.gfan_generated.proofs.SummaryLaws.{generated_ring}
use Rattle.gfan_generated.proofs.first_basis.Goals as goal

pub basis_by_several_ways-requires-clause-variables : goal.basis_by_several_ways-requires-clause-variables
basis_by_several_ways-requires-clause-variables c =
    subst (HaveRingVariables 4) (sym (c.deref.ensures.value ∙ c.in_ok-generators.ensures)) (generated_ring c.args.number)

pub basis_by_several_ways-requires-clause-suited : goal.basis_by_several_ways-requires-clause-suited
basis_by_several_ways-requires-clause-suited c =
    let variables = subst (HaveRingVariables 4) (sym (c.deref.ensures.value ∙ c.in_ok-generators.ensures)) (generated_ring c.args.number) in
    subst (λ o. IsSuited o 4 c.deref.result.now) (sym c.deglex.ensures) (orders_that_suit.deglex 4 c.deref.result.now variables)

pub returns-in_err-generators-clause-err : goal.returns-in_err-generators-clause-err
returns-in_err-generators-clause-err c =
    let p = err_from_is_err_and c.from_residual.result c.from_residual.ensures.1 in
    rw p.1 (first_memory MonomialOrder.deglex 4 (generated_set c.args.number) c.args.pairs p.0.refusal (ap (λ r. r.refusal) p.2))

pub returns-clause-err : goal.returns-clause-err
returns-clause-err c = (
  c.in-Err.error,
  first_told _ MonomialOrder.deglex 4 4 c.deref.result.now (generated_set c.args.number) c.args.pairs c.in-Err.error c.deglex.ensures refl
      (c.deref.ensures.value ∙ c.in_ok-generators.ensures) c.in-Err.ensures.err c.in-Err.ensures.complete_by_rule,
  ap (λ r. r.refusal) c.from.ensures,
)
