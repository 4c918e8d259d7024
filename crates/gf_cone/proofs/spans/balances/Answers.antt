use Rattle.std.proofs.Common.{rules, FitsSigned, ◌≡◌, ◌+ℤ◌, ◌*ℤ◌, pos, slice_index_or, IfSome, Option, ℤ, sym, ap₂, ◌∙◌, subst}
use Rattle.std.specs.Int.{w128}
use Rattle.std.proofs.lemmas.Int.{to_z-of_z}
use Rattle.gf_cone.specs.Cones.{normal_at}
use Rattle.gf_cone.specs.Spans.{part_at}
use Rattle.gf_cone.proofs.spans.balances.Goals as goal

pub returns-in-Some-Some-Some-Some : goal.returns-in-Some-Some-Some-Some
returns-in-Some-Some-Some-Some c = λ t.
    let m = c.in-Some-Some-Some-Some in
    let d = c.args.cone.now in
    let s = c.args.span.now in
    let px : m.x ≡ part_at d s.first c.args.i = subst (λ (o : Option ℤ). IfSome o (λ z. z ≡ part_at d s.first c.args.i)) m.is-0 c.part-first.ensures in
    let py : m.y ≡ part_at d s.second c.args.i = subst (λ (o : Option ℤ). IfSome o (λ z. z ≡ part_at d s.second c.args.i)) m.is-1 c.part-second.ensures in
    let pz : m.z ≡ part_at d s.third c.args.i = subst (λ (o : Option ℤ). IfSome o (λ z. z ≡ part_at d s.third c.args.i)) m.is-2 c.part-third.ensures in
    let pa : m.all ≡ s.normal *ℤ slice_index_or (normal_at d c.args.index) c.args.i (pos 0) =
    subst (λ (o : Option ℤ). IfSome o (λ z. z ≡ s.normal *ℤ slice_index_or (normal_at d c.args.index) c.args.i (pos 0))) m.is-3 c.of_normal-all.ensures in
    let fx : FitsSigned w128 m.x = search rules in
    let fy : FitsSigned w128 m.y = search rules in
    let fz : FitsSigned w128 m.z = search rules in
    let fa : FitsSigned w128 m.all = search rules in
    let q : m.x +ℤ m.y +ℤ m.z ≡ m.all = simp to_z-of_z at (c.is_total.ensures t) in
    sym (ap₂ (λ (x y : ℤ). x +ℤ y) (ap₂ (λ (x y : ℤ). x +ℤ y) px py) pz) ∙ q ∙ pa
