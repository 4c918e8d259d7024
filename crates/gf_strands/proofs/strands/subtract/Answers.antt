use Rattle.std.proofs.Common.{◌≡◌, ◌++◌, ◌∷◌, [], List, take, ℤ, ◌+ℤ◌, to_z, of_z, FitsSigned, rules, sym, ap, ◌∙◌, subst}
use Rattle.std.specs.Int.{w32}
use Rattle.std.proofs.lemmas.Int.{to_z-of_z}
use Rattle.std.proofs.lemmas.List.{take_all, take_more}
use Rattle.gf_frac.specs.Fraction.{Fraction, ◌*ℚ◌, neg_ℚ}
use Rattle.gf_strands.specs.declared.strands.Point.{Point}
use Rattle.gf_strands.specs.Strands.{IsSubtracted, IsPointAdded}
use Rattle.gf_strands.proofs.PointLaws.{subtracted-none, subtracted_more}
use Rattle.gf_strands.proofs.strands.subtract.Goals as goal

pub points-init : goal.points-init
points-init c = subtracted-none c.args.p c.args.work.now.items

pub points-preserved : goal.points-preserved
points-preserved c =
    let p = c.args.p in
    let q : Point = c.index-rest-j.result in
    let f : FitsSigned w32 p.k = search rules in
    let g : FitsSigned w32 q.k = search rules in
    let h : FitsSigned w32 (to_z w32 (of_z w32 p.k) +ℤ to_z w32 (of_z w32 q.k)) = c.in_ok-k.ensures.0 in
    let e : to_z w32 (of_z w32 p.k) +ℤ to_z w32 (of_z w32 q.k) ≡ p.k +ℤ q.k =
    ap (λ (z : ℤ). z +ℤ to_z w32 (of_z w32 q.k)) (to_z-of_z w32 p.k f) ∙ ap (λ (z : ℤ). p.k +ℤ z) (to_z-of_z w32 q.k g) in
    let k : to_z w32 (of_z w32 c.in_ok-k.k) ≡ p.k +ℤ q.k = ap (λ (z : ℤ). to_z w32 (of_z w32 z)) c.in_ok-k.ensures.1 ∙ to_z-of_z w32 _ h ∙ e in
    let d : c.neg-coef.result ≡ neg_ℚ (p.coef *ℚ q.coef) = c.neg-coef.ensures ∙ ap neg_ℚ c.in_ok-product.ensures in
    let m : IsPointAdded (p.k +ℤ q.k) c.neg-coef.result c.points.work.items c.add_point.new.work.items =
    subst (λ (z : ℤ). IsPointAdded z c.neg-coef.result c.points.work.items c.add_point.new.work.items) k c.in_ok-add_point.ensures.added in
    subst (λ (z : List Point). IsSubtracted p z c.args.work.now.items c.add_point.new.work.items)
    (sym (take_more c.args.rest.now c.points.j q c.points-test.true ∙ ap (λ (z : Point). take c.points.j c.args.rest.now ++ z ∷
    []) (sym c.index-rest-j.is)))
    (subtracted_more p q (take c.points.j c.args.rest.now) c.args.work.now.items c.points.work.items c.add_point.new.work.items c.points.invariant
    (subst (λ (z : Fraction). IsPointAdded (p.k +ℤ q.k) z c.points.work.items c.add_point.new.work.items) d m) c.in_ok-add_point.ensures.falling)

pub returns : goal.returns
returns c = subst (λ (z : List Point). IsSubtracted c.args.p z c.args.work.now.items c.points.work.items)
    (take_all c.points.j c.args.rest.now c.points-test.false) c.points.invariant
