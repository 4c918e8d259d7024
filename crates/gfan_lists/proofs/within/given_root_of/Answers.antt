use Rattle.std.proofs.Common.{List, refl, ap, ◌∙◌, subst}
use Rattle.std.proofs.lemmas.Result.{err_from_is_err_and}
use Rattle.gf_exponents_theory.specs.Orders.{gains}
use Rattle.gf_exponents_theory.specs.SixOrders.{MonomialOrder}
use Rattle.gf_poly.specs.Polynomial.{Terms}
use Rattle.gf_poly.specs.Marking.{polys}
use Rattle.gf_reduced.specs.declared.error.CheckError.TheVariants as check_errors
use Rattle.gf_lists_theory.specs.Starts.{StartsIn}
use Rattle.gfan_lists.specs.GivenBasis.{IsReducingRefusal}
use Rattle.gfan_lists.specs.Within.{IsGivenRegionRootRefusal}
use Rattle.gfan_lists.proofs.FirstLaws.{first_told}
use Rattle.gfan_lists.proofs.WithinLaws.{root_in_starts, given_region_starts}
use Rattle.gfan_lists.proofs.within.given_root_of.Goals as goal

pub returns-in_err-reduced-clause-err : goal.returns-in_err-reduced-clause-err
returns-in_err-reduced-clause-err c =
    let p = err_from_is_err_and c.from_residual.result c.from_residual.ensures.1 in
    rw (p.1, p.2) (IsGivenRegionRootRefusal.at_basis c.in_err-reduced.ensures.err)

pub returns-in_err-generators-clause-err : goal.returns-in_err-generators-clause-err
returns-in_err-generators-clause-err c =
    let p = err_from_is_err_and c.from_residual-in_err-generators.result c.from_residual-in_err-generators.ensures.1 in
    rw p.1 (IsGivenRegionRootRefusal.at_basis (IsReducingRefusal.at_check check_errors.Memory tt p.2))

pub returns-in-Ok-clause-root : goal.returns-in-Ok-clause-root
returns-in-Ok-clause-root c =
    let s = c.args.marked.now in
    let u = c.in_ok-reduced.reduced in
    let k = c.args.region.now in
    let f = c.in_ok-reduced.ensures.reduced in
    let there = root_in_starts c.variables.result k c.deref.result.now c.in-Ok.root c.in-Ok.ensures.node c.in-Ok.ensures.order in
    let named = subst (λ (fs : List Terms). StartsIn c.variables.result k fs c.in-Ok.root) (c.deref.ensures.value ∙ c.in_ok-generators.ensures.value) there in
    let counted = subst (λ n. StartsIn n k (polys u.items) c.in-Ok.root) (c.variables.ensures ∙ f.given.variables) named in
    given_region_starts k s u c.in-Ok.root c.in_ok-reduced.ensures.variables f counted

pub returns-clause-err : goal.returns-clause-err
returns-clause-err c =
    let u = c.in_ok-reduced.reduced in
    let k = c.args.region.now in
    let f = c.in_ok-reduced.ensures.reduced in
    let e = c.in-Err.error in
    let order = MonomialOrder.weighted (gains k.root) in
    let told = first_told order order c.variables.result c.args.marked.now.variables c.deref.result.now (polys u.items) c.args.pairs e refl
    (c.variables.ensures ∙ f.given.variables) (c.deref.ensures.value ∙ c.in_ok-generators.ensures.value) c.in-Err.ensures.err
    c.in-Err.ensures.complete_by_rule in
    IsGivenRegionRootRefusal.at_root u c.in_ok-reduced.ensures.basis f (e, told, ap (λ r. r.refusal) c.from.ensures)
