use Rattle.std.proofs.Common.{◌≡◌, ◌+◌, [], ◌∷◌, pos, FitsSigned, get_or, length, length-append, sym, ap, ◌∙◌, subst, arith, rules}
use Rattle.std.specs.Int.{w128}
use Rattle.std.proofs.lemmas.Int.{to_z-of_z}
use Rattle.gf_rays.proofs.SplitLoops.{values_long}
use Rattle.gf_rays.proofs.KeptLaws.{FlaggedSoFar, flagged_none, flagged_more, flagged_done}
use Rattle.gf_rays.proofs.split.flagged.Goals as goal

pub loop-ray-init : goal.loop-ray-init
loop-ray-init c = let e : c.in_ok-out.out.items ≡ [] = search rules in subst (FlaggedSoFar c.args.rays.items c.args.values.now c.args.rays.items) (sym e)
    (flagged_none c.args.rays.items c.args.values.now)

pub bounds-values-len : goal.bounds-values-len
bounds-values-len c =
    let e : length c.loop-ray.left.items ≡ length c.pop.new.self.items + 1 =
    ap length c.in-Some.ensures.items ∙ length-append c.pop.new.self.items (c.in-Some.ray ∷ []) in
    let few = c.loop-ray.invariant.few in
    let k = values_long c.requires.0 c.args.rays.items c.args.values.now c.requires.1.0 in
    omega (arith, e, few, k, c.len-in-Some.ensures)

pub loop-ray-preserved : goal.loop-ray-preserved
loop-ray-preserved c =
    let fv : FitsSigned w128 (get_or c.args.values.now c.len-in-Some.result (pos 0)) = search rules in
    let eb = simp to_z-of_z at c.is_zero.ensures in
    let en : c.len-in-Some.result ≡ length c.pop.new.self.items = omega (arith, c.len-in-Some.ensures) in
    flagged_more c.args.rays.items c.args.values.now c.loop-ray.left.items c.pop.new.self.items c.loop-ray.out.items _ c.in-Some.ray c.in_ok-flagged_ray.field-0
    c.is_zero.result (get_or c.args.values.now c.len-in-Some.result (pos 0))
    c.in-Some.ensures.items (ap (λ k. get_or c.args.values.now k (pos 0)) en) c.in_ok-flagged_ray.ensures.0 c.in_ok-flagged_ray.ensures.1 eb
    c.in_ok-push.ensures.items c.loop-ray.invariant

pub returns-clause-ok : goal.returns-clause-ok
returns-clause-ok c =
    let z = c.in_default.ensures.cases.0 in
    let e : length c.loop-ray.left.items ≡ 0 = omega (arith, z) in
    flagged_done c.args.rays.items c.args.values.now c.loop-ray.left.items c.loop-ray.out.items e c.loop-ray.invariant
