use Rattle.std.proofs.Common.{◌≡◌, length, get_or, arith, subst, Contains}
use Rattle.std.proofs.lemmas.List.{get_or_default}
use Rattle.std.proofs.lemmas.List.Elements.{Contains-get_or}
use Rattle.std.proofs.lemmas.Result.{err_from_is_err_and}
use Rattle.gf_gordan.specs.declared.error.ConeOverflow.{ConeOverflow}
use Rattle.gf_gordan.proofs.SystemLaws.{Failed-weaker}
use Rattle.gf_rays.specs.Reached.{IsRaysStep}
use Rattle.gf_rays.specs.Cones.{RowsAndRays}
use Rattle.gf_fan.specs.declared.cones.FanCone.{FanCone}
use Rattle.gf_fan.specs.ConeParts.{HasRowsAndRaysOf}
use Rattle.gf_fan.specs.MaximalCones.{no_cone}
use Rattle.gf_fan.specs.WholeCones.{IsStepOfSome}
use Rattle.gf_fan.proofs.EachLaws.{each_more, each_done}
use Rattle.gf_fan.proofs.whole.whole_cones.Goals as goal

pub loop-i-preserved : goal.loop-i-preserved
loop-i-preserved c =
    let cones = c.args.cones.now in
    let index = get_or c.args.indices.now c.loop-i.i-index 0 in
    let k : FanCone = c.index-cones-i.result in
    let there : get_or cones index k ≡ get_or cones index no_cone = get_or_default cones index k no_cone (c.requires c.loop-i.i-index 0 c.loop-i-test.true) in
    each_more (λ j (w : RowsAndRays). HasRowsAndRaysOf w (get_or c.args.cones.now (get_or c.args.indices.now j 0) no_cone).cone) c.loop-i.i-index
    c.in_ok-whole.field-0 c.loop-i.out.items _ c.in_ok-push.ensures.items
    (subst (λ (z : FanCone). HasRowsAndRaysOf c.in_ok-whole.field-0 z.cone) there c.in_ok-whole.ensures.ok) c.loop-i.invariant

pub returns-clause-ok : goal.returns-clause-ok
returns-clause-ok c = each_done (λ k (w : RowsAndRays). HasRowsAndRaysOf w (get_or c.args.cones.now (get_or c.args.indices.now k 0) no_cone).cone)
    (length c.args.indices.now) c.loop-i.i-index c.loop-i.out.items (omega arith) c.loop-i-test.false c.loop-i.invariant

pub returns-in_err-whole-clause-err : goal.returns-in_err-whole-clause-err
returns-in_err-whole-clause-err c =
    let cones = c.args.cones.now in
    let p = err_from_is_err_and c.from_residual-in_err-whole.result c.from_residual-in_err-whole.ensures.1 in
    let index = get_or c.args.indices.now c.loop-i.i-index 0 in
    let k : FanCone = get_or cones index c.index-cones-i.result in
    let own : Contains cones k = Contains-get_or cones index c.index-cones-i.result (c.requires c.loop-i.i-index 0 c.loop-i-test.true) in
    let told : (s : ConeOverflow) → IsRaysStep k.cone.ambient k.cone.inequalities k.cone.equations s → IsStepOfSome cones s = λ s step. (k, (own, step)) in
    rw (p.1, p.2) (Failed-weaker _ _ told _ c.in_err-whole.ensures.err)
