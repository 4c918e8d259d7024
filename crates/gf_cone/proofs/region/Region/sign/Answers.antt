use Rattle.std.proofs.Common.{rules, sym, ap, ap₂, ◌∙◌, to_z, FitsSigned}
use Rattle.std.specs.Int.{w128}
use Rattle.std.proofs.lemmas.Int.{to_z-of_z}
use Rattle.gf_vec.specs.Vector.{dot}
use Rattle.gf_vec.specs.RootSign.{first_sign}
use Rattle.gf_facets_theory.specs.Regions.{Region}
use Rattle.gf_cone.proofs.RegionLaws.{sign_told, plain_told, zero_sign}
use Rattle.gf_cone.proofs.region.Region.sign.Goals as goal

pub returns-then-self-clause-value : goal.returns-then-self-clause-value
returns-then-self-clause-value c = plain_told _ c.args.self.now c.args.a.now c.root_sign.result c.self.view_is
    (c.self.invariant.plain c.if-self.true) c.requires.width c.root_sign.ensures

pub returns-then-self-clause-negative : goal.returns-then-self-clause-negative
returns-then-self-clause-negative c = sign_told c.args.self.now.root c.args.a.now c.root_sign.result
    (plain_told _ c.args.self.now c.args.a.now c.root_sign.result c.self.view_is (c.self.invariant.plain c.if-self.true) c.requires.width c.root_sign.ensures)

pub returns-clause-negative : goal.returns-clause-negative
returns-clause-negative c =
    let fv : FitsSigned w128 c.dot_of-value.result = search rules in
    sign_told c.args.self.now.root c.args.a.now c.leading_sign.result (zero_sign c.args.self.now.root c.args.a.now c.dot_of-value.result c.leading_sign.result
    (c.dot_of-value.ensures ∙ ap₂ dot c.as_slice.ensures.value (c.as_slice-2.ensures.value ∙ ap (λ (z : Region). z.root) c.self.view_is))
    (sym (to_z-of_z w128 c.dot_of-value.result fv) ∙ ap (to_z w128) c.if-value-ne0.false)
    (c.leading_sign.ensures ∙ ap first_sign c.as_slice-3.ensures.value))
