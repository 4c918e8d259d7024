use Rattle.std.proofs.Common.{arith, ap, length, subst, ◌∙◌, sym}
use Rattle.gf_exponents_theory.specs.SixOrders.{MonomialOrder}
use Rattle.gf_order.specs.Comparisons.{IsOutcome}
use Rattle.gf_order.specs.Kinds.{order_of}
use Rattle.gf_order.proofs.KindLaws.{weighted-entries, weighted_revlex-entries, facet-entries}
use Rattle.gf_order.proofs.order.Order.cmp.Goals as goal

pub weighted-requires-clause-short : goal.weighted-requires-clause-short
weighted-requires-clause-short c = omega (
  arith,
  weighted-entries (length c.args.x.now) c.self.inside.kind c.args.self.now _ c.self.view_is c.in-Weighted.is
      c.requires.weight,
  ap length c.as_slice.ensures.value,
)

pub weighted-requires-clause-left : goal.weighted-requires-clause-left
weighted-requires-clause-left c = omega (
  arith,
  weighted-entries (length c.args.x.now) c.self.inside.kind c.args.self.now _ c.self.view_is c.in-Weighted.is
      c.requires.weight,
  ap length c.as_slice.ensures.value,
)

pub weighted-requires-clause-right : goal.weighted-requires-clause-right
weighted-requires-clause-right c = omega (
  arith,
  weighted-entries (length c.args.x.now) c.self.inside.kind c.args.self.now _ c.self.view_is c.in-Weighted.is
      c.requires.weight,
  ap length c.as_slice.ensures.value,
)

pub weighted_revlex-requires-clause-short : goal.weighted_revlex-requires-clause-short
weighted_revlex-requires-clause-short c = omega (
  arith,
  weighted_revlex-entries (length c.args.x.now) c.self.inside.kind c.args.self.now _ c.self.view_is
      c.in-WeightedRevlex.is c.requires.weight,
  ap length c.as_slice-in-WeightedRevlex.ensures.value,
)

pub weighted_revlex-requires-clause-left : goal.weighted_revlex-requires-clause-left
weighted_revlex-requires-clause-left c = omega (
  arith,
  weighted_revlex-entries (length c.args.x.now) c.self.inside.kind c.args.self.now _ c.self.view_is
      c.in-WeightedRevlex.is c.requires.weight,
  ap length c.as_slice-in-WeightedRevlex.ensures.value,
)

pub weighted_revlex-requires-clause-right : goal.weighted_revlex-requires-clause-right
weighted_revlex-requires-clause-right c = omega (
  arith,
  weighted_revlex-entries (length c.args.x.now) c.self.inside.kind c.args.self.now _ c.self.view_is
      c.in-WeightedRevlex.is c.requires.weight,
  ap length c.as_slice-in-WeightedRevlex.ensures.value,
)

pub facet-requires-clause-short : goal.facet-requires-clause-short
facet-requires-clause-short c = omega (
  arith,
  facet-entries (length c.args.x.now) c.self.inside.kind c.args.self.now _ c.self.view_is c.in-Facet.is
      c.requires.weight,
  ap length c.as_slice-in-Facet.ensures.value,
)

pub facet-requires-clause-left : goal.facet-requires-clause-left
facet-requires-clause-left c = omega (
  arith,
  facet-entries (length c.args.x.now) c.self.inside.kind c.args.self.now _ c.self.view_is c.in-Facet.is
      c.requires.weight,
  ap length c.as_slice-in-Facet.ensures.value,
)

pub facet-requires-clause-right : goal.facet-requires-clause-right
facet-requires-clause-right c = omega (
  arith,
  facet-entries (length c.args.x.now) c.self.inside.kind c.args.self.now _ c.self.view_is c.in-Facet.is
      c.requires.weight,
  ap length c.as_slice-in-Facet.ensures.value,
)

pub returns-in-Lex : goal.returns-in-Lex
returns-in-Lex c = subst (λ (o : MonomialOrder). IsOutcome o c.args.x.now c.args.y.now c.lex.result)
    (sym (ap order_of c.in-Lex.is) ∙ c.self.view_is) c.lex.ensures

pub returns-in-Revlex : goal.returns-in-Revlex
returns-in-Revlex c = subst (λ (o : MonomialOrder). IsOutcome o c.args.x.now c.args.y.now c.revlex.result)
    (sym (ap order_of c.in-Revlex.is) ∙ c.self.view_is) c.revlex.ensures
