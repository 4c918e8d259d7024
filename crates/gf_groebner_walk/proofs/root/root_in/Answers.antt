use Rattle.std.proofs.Common.{◌≡◌, ℕ, List, ℤ, sym, ap, ◌∙◌, subst}
use Rattle.std.proofs.lemmas.Result.{IfOk-weaker}
use Rattle.gf_exponents_theory.specs.Orders.{gains}
use Rattle.gf_exponents_theory.specs.SixOrders.{MonomialOrder}
use Rattle.gf_buchberger.specs.Bases.{IsArrangedBasis}
use Rattle.gf_buchberger.specs.Tasks.{IsSuited}
use Rattle.gf_buchberger.proofs.TaskLaws.{orders_that_suit}
use Rattle.gf_facets_theory.specs.Regions.{IsRegion}
use Rattle.gf_reverse_theory.specs.Upward.{IsNodeIn, IsNode}
use Rattle.gf_tree.specs.Ideals.{ideal_within}
use Rattle.gf_tree.proofs.IdealLaws.{start_in_region}
use Rattle.gf_groebner_walk.proofs.root.root_in.Goals as goal

pub basis_by_several_ways-requires-clause-suited : goal.basis_by_several_ways-requires-clause-suited
basis_by_several_ways-requires-clause-suited c =
    subst (λ (o : MonomialOrder). IsSuited o c.args.n c.args.set.now) (sym c.order_by-order.ensures.order)
    (orders_that_suit.weighted c.args.n (gains c.in-Ok.root) c.args.set.now c.requires.ring)

pub returns-clause-node : goal.returns-clause-node
returns-clause-node c =
    let k = c.args.region.now in
    let same : c.order_by-order.result ≡ MonomialOrder.weighted (gains k.root) =
    c.order_by-order.ensures.order ∙ ap (λ (r : List ℤ). MonomialOrder.weighted (gains r)) (c.in-Ok.ensures ∙ c.root.ensures.value) in
    let region : IsRegion c.args.n k = subst (λ (m : ℕ). IsRegion m k) c.requires.width c.root.ensures.region in
    IfOk-weaker c.basis_by_several_ways.result (IsArrangedBasis c.order_by-order.result c.args.n c.args.set.now)
    (IsNodeIn (ideal_within c.args.n c.args.set.now k))
    (λ s b. (start_in_region c.args.n c.args.set.now k s c.requires.ring region (subst (λ (o : MonomialOrder). IsArrangedBasis o c.args.n c.args.set.now s)
    same b)).0) c.basis_by_several_ways.ensures.ok

pub returns-clause-own : goal.returns-clause-own
returns-clause-own c =
    let k = c.args.region.now in
    let same : c.order_by-order.result ≡ MonomialOrder.weighted (gains k.root) =
    c.order_by-order.ensures.order ∙ ap (λ (r : List ℤ). MonomialOrder.weighted (gains r)) (c.in-Ok.ensures ∙ c.root.ensures.value) in
    let region : IsRegion c.args.n k = subst (λ (m : ℕ). IsRegion m k) c.requires.width c.root.ensures.region in
    IfOk-weaker c.basis_by_several_ways.result (IsArrangedBasis c.order_by-order.result c.args.n c.args.set.now) (IsNode k)
    (λ s b. (start_in_region c.args.n c.args.set.now k s c.requires.ring region (subst (λ (o : MonomialOrder). IsArrangedBasis o c.args.n c.args.set.now s)
    same b)).1) c.basis_by_several_ways.ensures.ok
