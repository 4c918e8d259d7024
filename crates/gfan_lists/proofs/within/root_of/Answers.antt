use Rattle.std.proofs.Common.{length, refl, sym, ap, ◌∙◌, subst}
use Rattle.std.proofs.lemmas.Result.{err_from_is_err_and}
use Rattle.gf_exponents_theory.specs.Orders.{gains}
use Rattle.gf_exponents_theory.specs.SixOrders.{MonomialOrder}
use Rattle.gf_buchberger.specs.Tasks.{HaveRingVariables}
use Rattle.gfan_common.specs.Forms.{generators_of}
use Rattle.gf_lists_theory.specs.Starts.{StartsIn}
use Rattle.gfan_common.proofs.WrittenSetLaws.{in_ring}
use Rattle.gfan_lists.proofs.FirstLaws.{first_told, first_memory}
use Rattle.gfan_lists.proofs.WithinLaws.{root_in_starts}
use Rattle.gfan_lists.proofs.within.root_of.Goals as goal

pub root_in-requires-clause-ring : goal.root_in-requires-clause-ring
root_in-requires-clause-ring c =
    subst (λ n. HaveRingVariables n c.deref.result.now) (sym c.len.ensures.value)
    (in_ring (length c.args.ring.now) c.args.set.now c.deref.result.now c.requires.set (c.deref.ensures.value ∙ c.in_ok-generators.ensures))

pub root_in-requires-clause-width : goal.root_in-requires-clause-width
root_in-requires-clause-width c = c.requires.width ∙ sym c.len.ensures.value

pub returns-in-Ok-clause-ok : goal.returns-in-Ok-clause-ok
returns-in-Ok-clause-ok c =
    subst (λ n. StartsIn n c.args.region.now (generators_of c.args.set.now) c.in-Ok.root) c.len.ensures.value
    (subst (λ fs. StartsIn c.len.result c.args.region.now fs c.in-Ok.root) (c.deref.ensures.value ∙ c.in_ok-generators.ensures)
    (root_in_starts c.len.result c.args.region.now c.deref.result.now c.in-Ok.root c.in-Ok.ensures.node c.in-Ok.ensures.order))

pub returns-in_err-generators-clause-err : goal.returns-in_err-generators-clause-err
returns-in_err-generators-clause-err c =
    let p = err_from_is_err_and c.from_residual.result c.from_residual.ensures.1 in
    rw p.1 (first_memory (MonomialOrder.weighted (gains c.args.region.now.root)) (length c.args.ring.now) (generators_of c.args.set.now) c.args.pairs
    p.0.refusal (ap (λ r. r.refusal) p.2))

pub returns-clause-err : goal.returns-clause-err
returns-clause-err c =
    let order = MonomialOrder.weighted (gains c.args.region.now.root) in (
      c.in-Err.error,
      first_told order order c.len.result (length c.args.ring.now) c.deref.result.now (generators_of c.args.set.now) c.args.pairs c.in-Err.error refl
          c.len.ensures.value (c.deref.ensures.value ∙ c.in_ok-generators.ensures) c.in-Err.ensures.err c.in-Err.ensures.complete_by_rule,
      ap (λ r. r.refusal) c.from.ensures,
    )
