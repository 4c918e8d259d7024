use Rattle.std.proofs.Common.{sym, subst}
use Rattle.std.proofs.lemmas.Result.{IfOk-weaker, IfErr-weaker}
use Rattle.gf_exponents_theory.specs.SixOrders.{MonomialOrder}
use Rattle.gf_order.specs.Comparisons.{HasEntries}
use Rattle.gf_buchberger.specs.Tasks.{HaveRingVariables, IsSuited}
use Rattle.gf_buchberger.specs.Bases.{IsArrangedBasis}
use Rattle.gf_poly.specs.Marking.{MarkedPolynomials}
use Rattle.std.specs.Prelude.{IfSome, Option}
use Rattle.gf_buchberger.proofs.TaskLaws.{orders_that_suit}
use Rattle.gf_saturate.specs.Saturating.{IsSaturation, IsSaturateRefusal, IsToldRefusal}
use Rattle.gf_saturate.proofs.StepLaws.{arranged-as, if_told}
use Rattle.gf_saturate.proofs.StageLaws.{way_ring, saturation_of}
use Rattle.gf_saturate.proofs.saturation.by_degree.Goals as goal

pub basis-requires-clause-variables : goal.basis-requires-clause-variables
basis-requires-clause-variables c = subst (HaveRingVariables c.args.n) (sym c.deref.ensures.value)
    (way_ring c.args.n c.args.set.now c.in-Ok.last.polys.items c.requires.variables c.in-Ok.ensures.way)

pub basis-requires-clause-entries : goal.basis-requires-clause-entries
basis-requires-clause-entries c = subst (HasEntries c.args.n) (sym c.deglex.ensures) tt

pub basis-requires-clause-suited : goal.basis-requires-clause-suited
basis-requires-clause-suited c =
    let v : HaveRingVariables c.args.n c.deref.result.now = subst (HaveRingVariables c.args.n) (sym c.deref.ensures.value)
    (way_ring c.args.n c.args.set.now c.in-Ok.last.polys.items c.requires.variables c.in-Ok.ensures.way) in
    subst (λ (o : MonomialOrder). IsSuited o c.args.n c.deref.result.now) (sym c.deglex.ensures) (orders_that_suit.deglex c.args.n c.deref.result.now v)

pub returns-clause-ok : goal.returns-clause-ok
returns-clause-ok c = IfOk-weaker c.basis-in-None.result _ (IsSaturation c.args.n c.args.set.now)
    (λ s b. saturation_of c.args.n c.args.set.now c.in-Ok.last.polys.items s c.requires.variables c.in-Ok.ensures.way
    (arranged-as _ _ c.args.n _ _ s c.deglex.ensures c.deref.ensures.value b)) c.basis-in-None.ensures.ok

pub returns-clause-err : goal.returns-clause-err
returns-clause-err c =
    let hs = c.in-Ok.last.polys.items in
    IfErr-weaker c.basis-in-None.result (IsToldRefusal MonomialOrder.deglex c.args.n hs c.args.pairs) (IsSaturateRefusal c.args.n c.args.set.now c.args.pairs)
    (λ e r. IsSaturateRefusal.at_end hs c.in-Ok.ensures.way r)
    (if_told _ MonomialOrder.deglex c.args.n c.args.pairs _ hs c.basis-in-None.result c.deglex.ensures c.deref.ensures.value c.basis-in-None.ensures.err
    c.basis-in-None.ensures.complete_by_rule)

pub returns-in-Some-clause-ok : goal.returns-in-Some-clause-ok
returns-in-Some-clause-ok c =
    let known : IsArrangedBasis MonomialOrder.deglex c.args.n c.in-Ok.last.polys.items c.in-Some.known =
    subst (λ (o : Option MarkedPolynomials). IfSome o (IsArrangedBasis MonomialOrder.deglex c.args.n c.in-Ok.last.polys.items))
    c.in-Some.is c.in-Ok.ensures.stage.known in
    saturation_of c.args.n c.args.set.now c.in-Ok.last.polys.items c.in-Some.known c.requires.variables c.in-Ok.ensures.way known
