use Rattle.std.proofs.Common.{rules, arith, ap, length, ◌∙◌, FitsSigned, pos, ◌-ℤ◌}
use Rattle.std.specs.Int.{w128}
use Rattle.std.proofs.lemmas.Int.{to_z-of_z, ints, fits_signed_from_abs}
use Rattle.gf_order.proofs.KindLaws.{weighted-entries, weighted_revlex-entries, facet-entries, weighted-level, weighted_revlex-level, facet-level}
use Rattle.gf_order.proofs.order.Order.level.Goals as goal

pub weight_of-requires-clause-short : goal.weight_of-requires-clause-short
weight_of-requires-clause-short c = omega (
  arith,
  weighted-entries (length c.args.x.now) c.self.inside.kind c.args.self.now _ c.self.view_is c.in-Weighted.is
      c.requires.weight,
  ap length c.as_slice.ensures.value,
)

pub weight_of-requires-clause-entries : goal.weight_of-requires-clause-entries
weight_of-requires-clause-entries c = omega (
  arith,
  weighted-entries (length c.args.x.now) c.self.inside.kind c.args.self.now _ c.self.view_is c.in-Weighted.is
      c.requires.weight,
  ap length c.as_slice.ensures.value,
)

pub returns-in-Weighted : goal.returns-in-Weighted
returns-in-Weighted c =
    let f : FitsSigned w128 c.weight_of.result = search rules in
    rw (to_z-of_z) (c.weight_of.ensures.value ∙ weighted-level c.self.inside.kind c.args.self.now _ _ c.args.x.now c.self.view_is c.in-Weighted.is
    c.self.invariant c.as_slice.ensures.value)

pub weight_of-requires-in-WeightedRevlex-clause-short : goal.weight_of-requires-in-WeightedRevlex-clause-short
weight_of-requires-in-WeightedRevlex-clause-short c = omega (
  arith,
  weighted_revlex-entries (length c.args.x.now) c.self.inside.kind c.args.self.now _
      c.self.view_is c.in-WeightedRevlex.is c.requires.weight,
  ap length c.as_slice-in-WeightedRevlex.ensures.value,
)

pub weight_of-requires-in-WeightedRevlex-clause-entries : goal.weight_of-requires-in-WeightedRevlex-clause-entries
weight_of-requires-in-WeightedRevlex-clause-entries c = omega (
  arith,
  weighted_revlex-entries (length c.args.x.now) c.self.inside.kind c.args.self.now _
      c.self.view_is c.in-WeightedRevlex.is c.requires.weight,
  ap length c.as_slice-in-WeightedRevlex.ensures.value,
)

pub returns-in-WeightedRevlex : goal.returns-in-WeightedRevlex
returns-in-WeightedRevlex c =
    let f : FitsSigned w128 c.weight_of-in-WeightedRevlex.result = search rules in
    rw (to_z-of_z) (c.weight_of-in-WeightedRevlex.ensures.value ∙ weighted_revlex-level c.self.inside.kind c.args.self.now _ _ c.args.x.now c.self.view_is
    c.in-WeightedRevlex.is c.self.invariant c.as_slice-in-WeightedRevlex.ensures.value)

pub weight_of-requires-in-Facet-clause-short : goal.weight_of-requires-in-Facet-clause-short
weight_of-requires-in-Facet-clause-short c = omega (
  arith,
  facet-entries (length c.args.x.now) c.self.inside.kind c.args.self.now _ c.self.view_is c.in-Facet.is
      c.requires.weight,
  ap length c.as_slice-in-Facet.ensures.value,
)

pub weight_of-requires-in-Facet-clause-entries : goal.weight_of-requires-in-Facet-clause-entries
weight_of-requires-in-Facet-clause-entries c = omega (
  arith,
  facet-entries (length c.args.x.now) c.self.inside.kind c.args.self.now _ c.self.view_is
      c.in-Facet.is c.requires.weight,
  ap length c.as_slice-in-Facet.ensures.value,
)

pub returns-in-Facet : goal.returns-in-Facet
returns-in-Facet c =
    let w = c.weight_of-in-Facet in
    let f : FitsSigned w128 w.result = search rules in
    let g : FitsSigned w128 (pos 0 -ℤ w.result) = fits_signed_from_abs w128 (pos 0 -ℤ w.result) (omega (arith, ints, w.ensures.bound)) in
    let e = ap (λ z. pos 0 -ℤ z) w.ensures.value in
    simp to_z-of_z (e ∙ facet-level c.self.inside.kind c.args.self.now _ _ c.args.x.now c.self.view_is c.in-Facet.is c.as_slice-in-Facet.ensures.value)
